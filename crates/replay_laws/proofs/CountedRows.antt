-- Rows that dumps give rise, and there are no more of them than records.
use Rattle.std.proofs.Common.{◌≡◌, ℕ, zero, suc, ◌+◌, ◌-◌, ◌<◌, ◌≤◌, ◌⊎◌, inl, inr, cond, Bool, true, false, List, [], ◌∷◌, ◌++◌, length, take, drop, Option, None, refl, sym, ◌∙◌, ap, subst, arith, length-append}
use Rattle.std.specs.Prelude.{nat_lt, nat_le, filter, ◌&&◌}
use Rattle.station_base.specs.CivilMinute.{CivilMinute}
use Rattle.station_base.specs.declared.row.Row.{Row}
use Rattle.settings_file.specs.StationSettings.{StationSettings}
use Rattle.archive_record.specs.Reading.{stamp_in}
use Rattle.vantage_frames.specs.StampFrame.{date_asked, time_asked}
use Rattle.console_ring.specs.History.{retained, newer, record_is_newer, ring_size}
use Rattle.console_model.specs.Valid.{EachFollows}
use Rattle.station_base.specs.LastStamp as stamps
use Rattle.packed_rows.specs.Rising.{rows_rise, last_row_stamp}
use Rattle.packed_rows.proofs.RowLaws.{rise_join, rise_when}
use Rattle.station_session.specs.Records.{stored_rows, AllRead}
use Rattle.station_session.proofs.Stamps.{same_count, rises}
use Rattle.station_sim.specs.Sound.{AreRecords}
use Rattle.line_laws.specs.Gathers.{IsStamp}
use Rattle.replay_laws.specs.DumpCounts.{DumpCount, DumpsGather, offered}
use Rattle.line_laws.proofs.Levels.{level, level_of, level_is, exceeds_level, Ascend, all_ascend, newer_level}
use Rattle.replay_laws.proofs.Stamped.{read_of, read_take, read_drop, offered_read, last_with, rows_stamp}

abbrev pub bit : Bool → ℕ
bit true = 1
bit false = 0

abbrev pub counts : (List ℕ → Bool) → List (List ℕ) → ℕ
counts p [] = 0
counts p (x ∷ xs) = bit (p x) + counts p xs

counts_take : (p : List ℕ → Bool) (n : ℕ) (xs : List (List ℕ)) → counts p (take n xs) ≤ counts p xs
counts_take p zero xs = omega arith
counts_take p (suc n) [] = omega arith
counts_take p (suc n) (x ∷ xs) = omega (arith, counts_take p n xs)

counts_drop : (p : List ℕ → Bool) (n : ℕ) (xs : List (List ℕ)) → counts p (drop n xs) ≤ counts p xs
counts_drop p zero xs = omega arith
counts_drop p (suc n) [] = omega arith
counts_drop p (suc n) (x ∷ xs) = omega (arith, counts_drop p n xs)

counts_filter : (p q : List ℕ → Bool) (xs : List (List ℕ)) → counts p (filter q xs) ≤ counts p xs
counts_filter p q [] = omega arith
counts_filter p q (x ∷ xs) = go (q x) (counts_filter p q xs)
  where
    go : (t : Bool) → counts p (filter q xs) ≤ counts p xs → counts p (cond t (x ∷ filter q xs) (filter q xs)) ≤ bit (p x) + counts p xs
    go true h = omega (arith, h)
    go false h = omega (arith, h)

bit_one : (t : Bool) → bit t ≤ 1
bit_one true = omega arith
bit_one false = omega arith

pub counts_all : (p : List ℕ → Bool) (xs : List (List ℕ)) → counts p xs ≤ length xs
counts_all p [] = omega arith
counts_all p (x ∷ xs) = omega (arith, bit_one (p x), counts_all p xs)

abbrev within : ℕ → ℕ → List ℕ → Bool
within a u x = nat_lt a (level_of x) && nat_le (level_of x) u

abbrev pub up_to : ℕ → List ℕ → Bool
up_to u x = nat_le (level_of x) u

-- the level of the last, or a where there is none
abbrev pub top : ℕ → List (List ℕ) → ℕ
top a [] = a
top a (x ∷ xs) = top (level_of x) xs

top_above : (b : ℕ) (xs : List (List ℕ)) → Ascend b xs → b ≤ top b xs
top_above b [] h = omega arith
top_above b (x ∷ xs) h = omega (arith, h.0, top_above (level_of x) xs h.1)

all_within : (c b u : ℕ) (xs : List (List ℕ)) → Ascend b xs → c ≤ b → top b xs ≤ u → counts (within c u) xs ≡ length xs
all_within c b u [] h l m = refl
all_within c b u (x ∷ xs) h l m =
    let y : c < level_of x = omega (arith, h.0) in
    let z : level_of x ≤ u = omega (arith, m, top_above (level_of x) xs h.1) in
    let t : within c u x ≡ true = grind (arith, y, z) in
    omega (arith, ap bit t, all_within c (level_of x) u xs h.1 (omega arith) m)

one_more : (a u s : ℕ) → a ≤ u → bit (nat_lt a s && nat_le s u) + bit (nat_le s a) ≤ bit (nat_le s u)
one_more a u s l = go (nat_lt a s) (nat_le s u) (nat_le s a) refl refl refl
  where
    go : (x y z : Bool) → nat_lt a s ≡ x → nat_le s u ≡ y → nat_le s a ≡ z → bit (x && y) + bit z ≤ bit y
    go true true true e f g = absurd (let p : a < s = grind (arith, e) in let q : s ≤ a = grind (arith, g) in omega (arith, p, q))
    go true true false e f g = omega arith
    go true false true e f g = absurd (let p : a < s = grind (arith, e) in let q : s ≤ a = grind (arith, g) in omega (arith, p, q))
    go true false false e f g = omega arith
    go false true true e f g = omega arith
    go false true false e f g = omega arith
    go false false true e f g = absurd (let p : u < s = grind (arith, f) in let q : s ≤ a = grind (arith, g) in omega (arith, p, q))
    go false false false e f g = omega arith

split : (a u : ℕ) (xs : List (List ℕ)) → a ≤ u → counts (within a u) xs + counts (up_to a) xs ≤ counts (up_to u) xs
split a u [] l = omega arith
split a u (x ∷ xs) l = omega (arith, one_more a u (level_of x) l, split a u xs l)

level_top : (xs : List (List ℕ)) (b : Option CivilMinute) → level (stamps.last_stamp stamp_in xs b) ≡ top (level b) xs
level_top [] b = refl
level_top (x ∷ xs) b = level_top xs (stamp_in x) ∙ ap (λ n. top n xs) (sym (level_is x))

ascend_take : (n b : ℕ) (xs : List (List ℕ)) → Ascend b xs → Ascend b (take n xs)
ascend_take zero b xs h = tt
ascend_take (suc n) b [] h = tt
ascend_take (suc n) b (x ∷ xs) h = (h.0, ascend_take n (level_of x) xs h.1)

ascend_drop : (n b : ℕ) (xs : List (List ℕ)) → Ascend b xs → (c : ℕ) × Ascend c (drop n xs)
ascend_drop zero b xs h = (b, h)
ascend_drop (suc n) b [] h = (b, tt)
ascend_drop (suc n) b (x ∷ xs) h = ascend_drop n (level_of x) xs h.1

ascend_newer : (a : Option CivilMinute) → IsStamp a → (b c : ℕ) (xs : List (List ℕ)) → AllRead xs → Ascend b xs → (c ≤ level a) ⊎ (c ≤ b) → Ascend c (newer (date_asked a) (time_asked a) xs)
ascend_newer a ok b c [] read h k = tt
ascend_newer a ok b c (x ∷ xs) read h k =
    go (record_is_newer (date_asked a) (time_asked a) x) (newer_level a ok x read.0) (ascend_newer a ok (level_of x) (level_of x) xs read.1 h.1 (inr (omega arith))) (λ y. ascend_newer a ok (level_of x) c xs read.1 h.1 y)
  where
    go : (t : Bool) → t ≡ nat_lt (level a) (level_of x) → Ascend (level_of x) (newer (date_asked a) (time_asked a) xs) → (((c ≤ level a) ⊎ (c ≤ level_of x)) → Ascend c (newer (date_asked a) (time_asked a) xs)) →
        Ascend c (cond t (x ∷ newer (date_asked a) (time_asked a) xs) (newer (date_asked a) (time_asked a) xs))
    go true y i j = (let z : level a < level_of x = grind (arith, y) in elim k [ inl l ↦ omega (arith, l, z) | inr l ↦ omega (arith, l, h.0) ], i)
    go false y i j = j (elim k [ inl l ↦ inl l | inr l ↦ inr (omega (arith, l, h.0)) ])

-- what a dump could give rises over the last of the rows
offered_ascends : (r : List (List ℕ)) → EachFollows [] r → AreRecords r → (rows : List Row) → IsStamp (last_row_stamp rows) → (due : ℕ) → Ascend (level (last_row_stamp rows)) (offered r rows due)
offered_ascends r rises are rows ok due =
    let t = take due r in
    let d = ascend_drop (length (take due r) - ring_size) 0 (take due r) (ascend_take due 0 r (all_ascend r rises)) in
    ascend_newer (last_row_stamp rows) ok d.0 (level (last_row_stamp rows)) (retained (take due r)) (read_drop (length (take due r) - ring_size) (take due r) (read_take due r (read_of r are))) d.1 (inl (omega arith))

-- the keeper's order is that of the levels
keeper_rises : (a : Option CivilMinute) (xs : List (List ℕ)) → Ascend (level a) xs → stamps.Rises stamp_in a xs
keeper_rises a [] h = tt
keeper_rises a (x ∷ xs) h = (
  exceeds_level a (stamp_in x) ∙ ap (λ n. nat_lt (level a) n) (sym (level_is x)) ∙ (let z : nat_lt (level a) (level_of x) ≡ true = grind (arith, h.0) in z),
  keeper_rises (stamp_in x) xs (subst (λ n. Ascend n xs) (level_is x) h.1),
)

module _ (settings : StationSettings) (r : List (List ℕ)) (rises_all : EachFollows [] r) (are : AreRecords r) where
  -- the records of a dump
  taken : List Row → DumpCount → List (List ℕ)
  taken rows p = take p.gained (offered r rows p.due)

  taken_read : (rows : List Row) (p : DumpCount) → AllRead (take p.gained (offered r rows p.due))
  taken_read rows p = read_take p.gained (offered r rows p.due) (offered_read r are rows p.due)

  taken_ascends : (rows : List Row) (p : DumpCount) → IsStamp (last_row_stamp rows) → Ascend (level (last_row_stamp rows)) (take p.gained (offered r rows p.due))
  taken_ascends rows p ok = ascend_take p.gained (level (last_row_stamp rows)) (offered r rows p.due) (offered_ascends r rises_all are rows ok p.due)

  pub gathered_stamp : (ps : List DumpCount) (a b : List Row) → IsStamp (last_row_stamp a) → DumpsGather settings r ps a b → IsStamp (last_row_stamp b)
  gathered_stamp [] a b ok g = subst (λ x. IsStamp (last_row_stamp x)) (sym g) ok
  gathered_stamp (p ∷ ps) a b ok g =
      gathered_stamp ps (a ++ stored_rows settings (take p.gained (offered r a p.due))) b (rows_stamp settings a (take p.gained (offered r a p.due)) (taken_read a p) ok) g.2

  pub gathered_rises : (ps : List DumpCount) (a b : List Row) → IsStamp (last_row_stamp a) → rows_rise None a ≡ true → DumpsGather settings r ps a b → rows_rise None b ≡ true
  gathered_rises [] a b ok h g = subst (λ x. rows_rise None x ≡ true) (sym g) h
  gathered_rises (p ∷ ps) a b ok h g =
      let xs = take p.gained (offered r a p.due) in
      gathered_rises ps (a ++ stored_rows settings (take p.gained (offered r a p.due))) b (rows_stamp settings a (take p.gained (offered r a p.due)) (taken_read a p) ok)
      (rise_join None a (stored_rows settings (take p.gained (offered r a p.due))) h (rise_when (last_row_stamp a) (stored_rows settings (take p.gained (offered r a p.due))) (rises settings (take p.gained (offered r a p.due)) (last_row_stamp a) (taken_read a p) (keeper_rises (last_row_stamp a) (take p.gained (offered r a p.due)) (taken_ascends a p ok))))) g.2

  -- what one dump adds
  counted : (a : List Row) (p : DumpCount) (xs : List (List ℕ)) → xs ≡ take p.gained (offered r a p.due) → AllRead xs → Ascend (level (last_row_stamp a)) xs → length a ≤ counts (up_to (level (last_row_stamp a))) r →
      length (a ++ stored_rows settings xs) ≤ counts (up_to (level (last_row_stamp (a ++ stored_rows settings xs)))) r
  counted a p xs is read h l =
      let b = level (last_row_stamp a) in
      let u = top (level (last_row_stamp a)) xs in
      let l1 : level (last_row_stamp (a ++ stored_rows settings xs)) ≡ top (level (last_row_stamp a)) xs = ap level (last_with settings a xs read) ∙ level_top xs (last_row_stamp a) in
      let c1 : counts (within b u) xs ≡ length xs = all_within b b u xs h (omega arith) (omega arith) in
      let t = take p.due r in
      let q = within (level (last_row_stamp a)) (top (level (last_row_stamp a)) xs) in
      let c2 : counts q xs ≤ counts q r
      = omega (arith, ap (counts q) is, counts_take q p.gained (offered r a p.due), counts_filter q (record_is_newer (date_asked (last_row_stamp a)) (time_asked (last_row_stamp a))) (retained (take p.due r)), counts_drop q (length (take p.due r) - ring_size) (take p.due r), counts_take q p.due r) in
      let c3 = split b u r (top_above b xs h) in
      omega (arith, l, c1, c2, c3, length-append a (stored_rows settings xs), same_count settings xs read, ap (λ z. counts (up_to z) r) l1)

  gathered_few : (ps : List DumpCount) (a b : List Row) → IsStamp (last_row_stamp a) → length a ≤ counts (up_to (level (last_row_stamp a))) r → DumpsGather settings r ps a b → length b ≤ length r
  gathered_few [] a b ok l g = omega (arith, l, counts_all (up_to (level (last_row_stamp a))) r, ap length g)
  gathered_few (p ∷ ps) a b ok l g =
      gathered_few ps (a ++ stored_rows settings (take p.gained (offered r a p.due))) b (rows_stamp settings a (take p.gained (offered r a p.due)) (taken_read a p) ok)
      (counted a p (take p.gained (offered r a p.due)) refl (taken_read a p) (taken_ascends a p ok) l) g.2

  pub few_of : (d : List DumpCount) (rows : List Row) → DumpsGather settings r d [] rows → length rows ≤ length r
  few_of d rows g = gathered_few d [] rows tt (omega arith) g

  pub rise_of : (d : List DumpCount) (rows : List Row) → DumpsGather settings r d [] rows → rows_rise None rows ≡ true
  rise_of d rows g = gathered_rises d [] rows tt refl g

  pub stamp_of : (d : List DumpCount) (rows : List Row) → DumpsGather settings r d [] rows → IsStamp (last_row_stamp rows)
  stamp_of d rows g = gathered_stamp d [] rows tt g
