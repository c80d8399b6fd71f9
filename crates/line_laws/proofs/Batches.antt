-- The pages that an attempt takes give the first of the newer records, and all of them where it is whole.
use Rattle.std.proofs.Common.{◌≡◌, ℕ, zero, suc, ◌+◌, ◌-◌, ◌*◌, ◌%◌, ◌<◌, ◌≤◌, inl, inr, Bool, true, false, if◌then◌else◌, List, [], ◌∷◌, ◌++◌, length, drop, take, Option, Some, None, refl, sym, ◌∙◌, ap, subst, arith, append-nil, length-append, length-drop}
use Rattle.jiff_core.proofs.CalendarLemmas.{days_in_month_bounds}
use Rattle.std.specs.Prelude.{pos, nat_lt, filter, position}
use Rattle.std.specs.List.{position_or_len}
use Rattle.std.proofs.lemmas.Bool.Decides.{nat_tests}
use Rattle.station_base.specs.CivilMinute.{CivilMinute}
use Rattle.archive_record.specs.Record.{ReadsAsRow}
use Rattle.vantage_frames.specs.Words.{frame_of_words}
use Rattle.vantage_frames.specs.StampFrame.{date_asked, time_asked, stamp_frame_of}
use Rattle.console_ring.specs.declared.plan.Plan.{Plan}
use Rattle.console_ring.specs.History.{retained, newer, record_is_newer, ring_size}
use Rattle.console_ring.specs.Picture.{plan_by, plan_from, plan_of, no_plan}
use Rattle.console_model.specs.Spelling.{plan_after, date_in, time_in}
use Rattle.console_model.specs.Valid.{EachFollows}
use Rattle.serial_link.specs.declared.talk.TalkItem.{TalkItem}
use Rattle.dmpaft_driver.specs.Attempt.{Attempt, End}
use Rattle.dmpaft_pump.specs.Batch.{rising, batches, records_in}
use Rattle.dmpaft_pump.proofs.RisingBatches.{batches_rise}
use Rattle.dmpaft_driver.proofs.AttemptBounds.{frame_long}
use Rattle.schedule_file.specs.Fates.{FatesByNumber}
use Rattle.station_sim.specs.Line.{Line}
use Rattle.station_sim.specs.Talk.{ConsoleTalk}
use Rattle.station_sim.specs.Calm.{IsCalm}
use Rattle.station_sim.specs.Sound.{AreRecords, IsSound, AreSound}
use Rattle.station_sim.proofs.SoundLines.{records_front}
use Rattle.line_laws.specs.Host.{ArePages}
use Rattle.line_laws.specs.Gathers.{IsStamp, newer_held, AttemptGives}
use Rattle.line_laws.specs.PagesAcknowledged.{records_on_pages}
use Rattle.causes.specs.Lists.{IsFrontOf}
use Rattle.line_laws.proofs.Attempts.{attempt_law}
use Rattle.line_laws.proofs.Headers.{plan_small}
use Rattle.line_laws.proofs.Levels.{level, level_of, Ascend, newer_level, all_ascend}
use Rattle.line_laws.proofs.GatheredRecords.{pages_from, listed, climbing, above, UpTo, Follows, newer_is, picture_law, whole_picture}
use Rattle.line_laws.proofs.HistoryParts.{parts}
use Rattle.line_laws.proofs.Slots.{pages_seen, placed, shown_drop, good_pages, good_drop, rising_is}

-- the newer records by their levels
newer_above : (after : Option CivilMinute) → IsStamp after → (rs : List (List ℕ)) → AreRecords rs → newer (date_asked after) (time_asked after) rs ≡ above (level after) rs
newer_above after ok [] are = refl
newer_above after ok (r ∷ rs) are =
    ap (λ t. if t then r ∷ newer (date_asked after) (time_asked after) rs else newer (date_asked after) (time_asked after) rs) (newer_level after ok r are.1)
    ∙ ap (λ (xs : List (List ℕ)). if nat_lt (level after) (level_of r) then r ∷ xs else xs) (newer_above after ok rs are.2)

records_drop : (n : ℕ) (rs : List (List ℕ)) → AreRecords rs → AreRecords (drop n rs)
records_drop zero rs are = are
records_drop (suc n) [] are = tt
records_drop (suc n) (r ∷ rs) are = records_drop n rs are.2

records_back : (rs ss : List (List ℕ)) → AreRecords (rs ++ ss) → AreRecords ss
records_back [] ss are = are
records_back (r ∷ rs) ss are = records_back rs ss are.2

-- the words that a stamp frame names
small_asked : (after : Option CivilMinute) → IsStamp after → (date_asked after < 65536) × (time_asked after < 65536)
small_asked None ok = (omega arith, omega arith)
small_asked (Some a) ok = (omega (arith, ok.year_to, ok.month_to, ok.day_to, days_in_month_bounds (pos a.year) a.month), omega (arith, ok.hour_to, ok.minute_to))

pub frame_words : (date time : ℕ) → date < 65536 → time < 65536 → (date_in (frame_of_words date time) ≡ date) × (time_in (frame_of_words date time) ≡ time)
unfolding frame_of_words
frame_words date time a b = (omega (arith, a), omega (arith, b))

-- where the first one that passes stands
first_at : (test : List ℕ → Bool) (old : List (List ℕ)) (x : List ℕ) (new : List (List ℕ)) → filter test old ≡ [] → test x ≡ true → position_or_len test (old ++ x ∷ new) ≡ length old
first_at test [] x new none passes = rw passes refl
first_at test (y ∷ old) x new none passes = go (test y) refl none (first_at test old x new)
  where
    go : (t : Bool) → test y ≡ t → (if t then y ∷ filter test old else filter test old) ≡ [] → (filter test old ≡ [] → test x ≡ true → position_or_len test (old ++ x ∷ new) ≡ length old) → position_or_len test (y ∷ (old ++ x ∷ new)) ≡ suc (length old)
    go true e h more = absurd cc
    go false e h more = rw e (omega (arith, more h passes))

none_passes : (test : List ℕ → Bool) (old : List (List ℕ)) → filter test old ≡ [] → position_or_len test old ≡ length old
none_passes test [] none = refl
none_passes test (y ∷ old) none = go (test y) refl none (none_passes test old)
  where
    go : (t : Bool) → test y ≡ t → (if t then y ∷ filter test old else filter test old) ≡ [] → (filter test old ≡ [] → position_or_len test old ≡ length old) → position_or_len test (y ∷ old) ≡ suc (length old)
    go true e h more = absurd cc
    go false e h more = rw e (omega (arith, more h))

found_at : (test : List ℕ → Bool) (old : List (List ℕ)) (x : List ℕ) (new : List (List ℕ)) → filter test old ≡ [] → test x ≡ true → position test (old ++ x ∷ new) ≡ Some (length old)
found_at test old x new none passes =
    let at = first_at test old x new none passes in
    let below : nat_lt (length old) (length (old ++ x ∷ new)) ≡ true = grind (arith, nat_tests, length-append old (x ∷ new)) in
    ap (λ n. if nat_lt n (length (old ++ x ∷ new)) then Some n else None) at ∙ ap (λ t. if t then Some (length old) else None) below

not_found : (test : List ℕ → Bool) (old : List (List ℕ)) → filter test old ≡ [] → position test old ≡ None
not_found test old none =
    let at = none_passes test old none in
    let below : nat_lt (length old) (length old) ≡ false = grind (arith, nat_tests) in
    ap (λ n. if nat_lt n (length old) then Some n else None) at ∙ ap (λ t. if t then Some (length old) else None) below

take_none : (m : ℕ) → let none : List (List ℕ) = [] in take m none ≡ []
take_none zero = refl
take_none (suc m) = refl

take_front : (m : ℕ) (l : List (List ℕ)) → IsFrontOf (take m l) l
take_front zero l = (l, refl)
take_front (suc m) [] = ([], refl)
take_front (suc m) (x ∷ l) = let q = take_front m l in (q.0, ap (λ y. x ∷ y) q.1)

no_pages : (taken : List (List ℕ)) → length taken ≤ 0 → taken ≡ []
no_pages [] h = refl
no_pages (x ∷ taken) h = absurd (omega arith)

filter_up : (a : ℕ) (l : List (List ℕ)) → UpTo a l → above a l ≡ []
filter_up a [] u = refl
filter_up a (x ∷ l) u = let t : nat_lt a (level_of x) ≡ false = grind (arith, nat_tests, u.0) in ap (λ b. if b then x ∷ above a l else above a l) t ∙ filter_up a l u.1

drop_join : (n : ℕ) (k l : List (List ℕ)) → n ≤ length k → drop n (k ++ l) ≡ drop n k ++ l
drop_join zero k l h = refl
drop_join (suc n) [] l h = absurd (omega arith)
drop_join (suc n) (x ∷ k) l h = drop_join n k l (omega arith)

module _ (after : Option CivilMinute) (ok : IsStamp after) (h : List (List ℕ)) (are : AreRecords h) (each : EachFollows [] h) where
  frame : List ℕ
  frame = stamp_frame_of after

  -- the plan of a history that splits into old and new records
  plan_is : (old : List (List ℕ)) (x : List ℕ) (new : List (List ℕ)) → h ≡ old ++ x ∷ new → UpTo (level after) (drop (length h - ring_size) old) → level after < level_of x → length h ≤ length old + ring_size →
      plan_after h (stamp_frame_of after) ≡ plan_from (length old) (length h)
  unfolding plan_after plan_of
  plan_is old x new split up above_it few =
      let words = frame_words (date_asked after) (time_asked after) (small_asked after ok).0 (small_asked after ok).1 in
      let c = length h - ring_size in
      let test = record_is_newer (date_asked after) (time_asked after) in
      let parts : retained h ≡ drop c old ++ x ∷ new = ap (drop c) split ∙ drop_join c old (x ∷ new) (omega arith) in
      let all : AreRecords (drop c old ++ x ∷ new) = subst AreRecords parts (records_drop c h are) in
      let none : filter test (drop c old) ≡ [] = newer_above after ok (drop c old) (records_front (drop c old) (x ∷ new) all) ∙ filter_up (level after) (drop c old) up in
      let row : ReadsAsRow x = (records_back (drop c old) (x ∷ new) all).1 in
      let less : nat_lt (level after) (level_of x) ≡ true = grind (arith, nat_tests, above_it) in
      let passes : test x ≡ true = newer_level after ok x row ∙ less in
      let at : position test (retained h) ≡ Some (length (drop c old)) = ap (λ xs. position test xs) parts ∙ found_at test (drop c old) x new none passes in
      let long : length h ≡ length old + suc (length new) = ap length split ∙ length-append old (x ∷ new) in
      let first : c + length (drop c old) ≡ length old = omega (arith, length-drop c old, long) in
      ap (λ d. plan_by (position (record_is_newer d (time_in (stamp_frame_of after))) (retained h)) (length h - ring_size) (length h)) words.0
      ∙ ap (λ t. plan_by (position (record_is_newer (date_asked after) t) (retained h)) (length h - ring_size) (length h)) words.1
      ∙ ap (λ o. plan_by o (length h - ring_size) (length h)) at
      ∙ ap (λ f. plan_from f (length h)) first

  plan_none : (old : List (List ℕ)) → h ≡ old → UpTo (level after) (drop (length h - ring_size) old) → plan_after h (stamp_frame_of after) ≡ no_plan
  unfolding plan_after plan_of
  plan_none old split up =
      let words = frame_words (date_asked after) (time_asked after) (small_asked after ok).0 (small_asked after ok).1 in
      let c = length h - ring_size in
      let test = record_is_newer (date_asked after) (time_asked after) in
      let same : UpTo (level after) (retained h) = subst (λ xs. UpTo (level after) (drop c xs)) (sym split) up in
      let none : filter test (retained h) ≡ [] = newer_above after ok (retained h) (records_drop c h are) ∙ filter_up (level after) (retained h) same in
      ap (λ d. plan_by (position (record_is_newer d (time_in (stamp_frame_of after))) (retained h)) (length h - ring_size) (length h)) words.0
      ∙ ap (λ t. plan_by (position (record_is_newer (date_asked after) t) (retained h)) (length h - ring_size) (length h)) words.1
      ∙ ap (λ o. plan_by o (length h - ring_size) (length h)) (not_found test (retained h) none)

  -- what taken pages give is what climbs in the slots that they show
  given_is : (p : Plan) (taken : List (List ℕ)) → p.place ≤ 4 → ArePages h p 0 taken → records_in (batches after p.place taken) ≡ climbing (level after) (listed h p (length taken))
  given_is p taken few pages =
      let seen = pages_seen h p 0 taken are pages in
      batches_rise after p.place taken
      ∙ ap (λ ss. rising after ss) (placed p.place taken few ∙ ap (λ ss. drop p.place ss) seen ∙ sym (shown_drop p.place (pages_from h p 0 (length taken))))
      ∙ rising_is after (listed h p (length taken)) (good_drop p.place (pages_from h p 0 (length taken)) (good_pages h p 0 (length taken) are))

  held_newer : newer_held after h ≡ above (level after) (retained h)
  held_newer = newer_above after ok (retained h) (records_drop (length h - ring_size) h are)

  -- What an attempt's pages give: so many of the newer records, and all of them where no page lacks.
  pub batches_law : (taken : List (List ℕ)) → ArePages h (plan_after h (stamp_frame_of after)) 0 taken → length taken ≤ (plan_after h (stamp_frame_of after)).pages →
      (records_in (batches after (plan_after h (stamp_frame_of after)).place taken) ≡ take (records_on_pages (length taken) (plan_after h (stamp_frame_of after))) (newer_held after h))
      × (length taken ≡ (plan_after h (stamp_frame_of after)).pages → records_in (batches after (plan_after h (stamp_frame_of after)).place taken) ≡ newer_held after h)
  batches_law taken pages few =
      let q = parts 0 (level after) h (all_ascend h each) in
      go q.0 q.1 q.2 q.3 q.4 q.5 q.6
    where
      go : (old new : List (List ℕ)) → h ≡ old ++ new → ((0 < length new) → Follows (level after) old new) → UpTo (level after) (drop (length h - ring_size) old) → Ascend (level after) new → length h ≤ length old + ring_size →
          (records_in (batches after (plan_after h (stamp_frame_of after)).place taken) ≡ take (records_on_pages (length taken) (plan_after h (stamp_frame_of after))) (newer_held after h))
          × (length taken ≡ (plan_after h (stamp_frame_of after)).pages → records_in (batches after (plan_after h (stamp_frame_of after)).place taken) ≡ newer_held after h)
      go old [] split follows up rises size =
          let none : plan_after h (stamp_frame_of after) ≡ no_plan = plan_none old (split ∙ append-nil old) up in
          let t : taken ≡ [] = no_pages taken (omega (arith, few, ap (λ x. x.pages) none)) in
          let n : newer_held after h ≡ [] = held_newer ∙ newer_is old [] (level after) h split up rises size in
          let z : records_in (batches after (plan_after h (stamp_frame_of after)).place taken) ≡ newer_held after h = ap (λ x. records_in (batches after (plan_after h (stamp_frame_of after)).place x)) t ∙ sym n in
          (z ∙ n ∙ sym (ap (take (records_on_pages (length taken) (plan_after h (stamp_frame_of after)))) n ∙ take_none (records_on_pages (length taken) (plan_after h (stamp_frame_of after)))), λ whole. z)
      go old (x ∷ new) split follows up rises size =
          let is : plan_after h (stamp_frame_of after) ≡ plan_from (length old) (length h) = plan_is old x new split up rises.0 size in
          let small = plan_small h (stamp_frame_of after) in
          let f = plan_from (length old) (length h) in
          let some : 0 < length (x ∷ new) = omega arith in
          let g : records_in (batches after (plan_after h (stamp_frame_of after)).place taken) ≡ climbing (level after) (listed h f (length taken)) =
          given_is (plan_after h (stamp_frame_of after)) taken small.place pages ∙ ap (λ y. climbing (level after) (listed h y (length taken))) is in (
            g ∙ picture_law old (x ∷ new) (level after) (length taken) h split (follows some) up rises size ∙ ap (λ xs. take (5 * length taken - length old % ring_size % 5) xs) (sym held_newer)
                ∙ ap (λ y. take (records_on_pages (length taken) y) (newer_held after h)) (sym is),
            λ whole. g ∙ ap (λ n. climbing (level after) (listed h f n)) (whole ∙ ap (λ y. y.pages) is)
                ∙ whole_picture old (x ∷ new) (level after) h split some (follows some) up rises size ∙ sym held_newer,
          )

-- the place matters where there is a page
pub placed_as : (after : Option CivilMinute) (p place : ℕ) (taken : List (List ℕ)) → ((0 < length taken) → place ≡ p) → batches after place taken ≡ batches after p taken
placed_as after p place [] e = refl
placed_as after p place (x ∷ taken) e = ap (λ n. batches after n (x ∷ taken)) (e (omega arith))

-- one attempt after a stamp
pub attempt_gives : (f : FatesByNumber) → AreSound f → (after : Option CivilMinute) → IsStamp after → (talk : List TalkItem) (place : ℕ) (taken : List (List ℕ)) (end : End) (w v : Line) → IsSound w → IsCalm w
    → Attempt (stamp_frame_of after) talk place taken end → ConsoleTalk f talk w v → v.unseen ≡ None → IsCalm v × AttemptGives after w (batches after place taken) end v
attempt_gives f ok after stamp talk place taken end w v sound calm at e un =
    let q = attempt_law f ok (stamp_frame_of after) (frame_long after) talk place taken end w v sound calm at e un in (
      q.0,
      elim q.1 [
        | inl n ↦ inl (n.0, ap (λ ts. batches after place ts) n.1, n.2)
        | inr d ↦ (let b = batches_law after stamp d.0 d.6 d.7 taken d.2 d.3 in
            let z = placed_as after (plan_after d.0 (stamp_frame_of after)).place place taken d.5 in
            inr (
              d.0,
              d.1,
              subst (λ bs. IsFrontOf (records_in bs) (newer_held after d.0)) (sym z)
                  (subst (λ xs. IsFrontOf xs (newer_held after d.0)) (sym b.0) (take_front (records_on_pages (length taken) (plan_after d.0 (stamp_frame_of after))) (newer_held after d.0))),
              λ whole. ap records_in z ∙ b.1 (d.4 whole),
            ))
      ],
    )
