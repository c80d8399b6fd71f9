-- How much room the batches of an attempt take.
use Rattle.std.proofs.Common.{◌≡◌, ℕ, ◌+◌, ◌-◌, ◌*◌, ◌/◌, ◌%◌, ◌<◌, ◌≤◌, ◌==◌, if◌then◌else◌, Bool, true, false, inl, inr, List, [], ◌∷◌, ◌++◌, length, Option, Some, None, refl, sym, ◌∙◌, ap, subst, arith, length-append}
use Rattle.std.specs.Prelude.{nat_lt}
use Rattle.station_base.specs.CivilMinute.{CivilMinute}
use Rattle.station_base.specs.declared.row.Row.{Row}
use Rattle.settings_file.specs.StationSettings.{StationSettings}
use Rattle.disk_model.specs.Picked.{picked_length}
use Rattle.dmpaft_pump.specs.Batch.{batches, records_in, rising, newest, slots_in_page, add}
use Rattle.gated_log.specs.Layout.{slot_size}
use Rattle.station_session.specs.Records.{stored_rows, AllRead}
use Rattle.station_session.proofs.Stamps.{same_count}
use Rattle.schedule_file.specs.declared.schedule.step.Stop.{Stop}
use Rattle.replay_laws.specs.Keeping.{Archive, with_batch, appended, stopped, left_by_stop, needed, slots_for_rows, is_early, opens_gate, batches_before}
use Rattle.replay_laws.proofs.RoundAttempts.{Answer, Keeping, Keeps, answer, answer_by}
use Rattle.replay_laws.proofs.GivenBatches.{stored_is}
use Rattle.replay_laws.proofs.Stamped.{read_front, read_back}
use Rattle.gated_log.specs.Calls.{changes_in_a_batch}

pub picked_between : (pick old new : ℕ) → old ≤ new → picked_length pick old new ≤ new
picked_between pick old new l = go (pick == 0) (nat_lt pick 3)
  where
    go : (s t : Bool) → (if s then old else if t then new else old + pick % (new - old + 1)) ≤ new
    go true t = l
    go false true = omega arith
    go false false = let z : pick % (new - old + 1) < new - old + 1 = omega arith in omega (arith, l, z)

with_length : (settings : StationSettings) (a : Archive) (b : List (List ℕ)) → AllRead b → length (with_batch settings a b) ≡ length a.rows + length b
with_length settings a b read = omega (arith, length-append a.rows (stored_rows settings b), same_count settings b read)

-- no batch is empty
abbrev pub AllSome : List (List (List ℕ)) → Type 0
AllSome [] = Unit {0}
AllSome (b ∷ bs) = (0 < length b) × AllSome bs

pub batches_some : (a : Option CivilMinute) (place : ℕ) (taken : List (List ℕ)) → AllSome (batches a place taken)
batches_some a place [] = tt
batches_some a place (page ∷ more) = go (rising a (slots_in_page place page)) (batches_some (newest a (slots_in_page place page)) 0 more)
  where
    go : (b : List (List ℕ)) → AllSome (batches (newest a (slots_in_page place page)) 0 more) → AllSome (add b (batches (newest a (slots_in_page place page)) 0 more))
    go [] h = h
    go (r ∷ rs) h = (omega arith, h)

-- an answer by a stop is what the stop leaves
abbrev StopOf : StationSettings → Option Stop → ℕ → Archive → List (List ℕ) → Archive → Type 0
StopOf settings stop stored a batch b = (s : Stop) × (batches_before s.change ≡ stored) × (b ≡ stopped settings s stored a batch)

pub stop_of : (settings : StationSettings) (stop : Option Stop) (stored : ℕ) (a b : Archive) (batch : List (List ℕ)) → answer settings stop stored a batch ≡ Answer.Stops b → StopOf settings stop stored a batch b
stop_of settings None stored a b batch h = absurd (go (nat_lt settings.most (length (with_batch settings a batch))) h)
  where
    go : (t : Bool) → answer_by t None settings stored a batch ≡ Answer.Stops b → ⊥
    go true q = cc
    go false q = cc
stop_of settings (Some s) stored a b batch h = go (nat_lt settings.most (length (with_batch settings a batch))) (batches_before s.change == stored) refl h
  where
    go : (t u : Bool) → (batches_before s.change == stored) ≡ u → answer_by t (if u then Some s else None) settings stored a batch ≡ Answer.Stops b → (s : Stop) × (batches_before s.change ≡ stored) × (b ≡ stopped settings s stored a batch)
    go true u z q = absurd cc
    go false false z q = absurd cc
    go false true z q = (s, grind (arith, z), cc)

module _ (settings : StationSettings) (n bound : ℕ) (fit : (rows : List Row) → length rows ≤ n → slot_size * (slots_for_rows rows + 1) + 1 ≤ bound) where
  needed_fits : (a : Archive) (rows : List Row) → a.size ≤ bound → length rows ≤ n → needed a rows ≤ bound
  needed_fits a rows s l = omega (arith, s, fit rows l)

  left_fits : (early opens : Bool) (s : Stop) (stored : ℕ) (a : Archive) (batch : List (List ℕ)) → AllRead batch → a.size ≤ bound → length (with_batch settings a batch) ≤ n → batches_before s.change ≡ stored →
      ((left_by_stop early opens settings s stored a batch).size ≤ bound) × ((left_by_stop early opens settings s stored a batch).changes ≤ a.changes + 4) × (length a.rows ≤ length (left_by_stop early opens settings s stored a batch).rows)
  left_fits true opens s stored a batch read z l k = (omega (arith, needed_fits a (with_batch settings a batch) z l, picked_between s.pick a.size (needed a (with_batch settings a batch)) (omega arith)), omega (arith, k), omega arith)
  left_fits false true s stored a batch read z l k = (needed_fits a (with_batch settings a batch) z l, omega (arith, k), omega (arith, with_length settings a batch read))
  left_fits false false s stored a batch read z l k = (needed_fits a (with_batch settings a batch) z l, omega (arith, k), omega arith)

  abbrev pub Roomy : Archive → Keeping → Type 0
  Roomy a (Keeping.Goes m b) = (b.size ≤ bound) × (b.changes + changes_in_a_batch * length a.rows ≤ a.changes + changes_in_a_batch * length b.rows)
  Roomy a (Keeping.Fills b) = (b.size ≤ bound) × (b.changes + changes_in_a_batch * length a.rows ≤ a.changes + changes_in_a_batch * length b.rows)
  Roomy a (Keeping.Breaks b c) = (c.size ≤ bound) × (c.changes + changes_in_a_batch * length a.rows ≤ a.changes + changes_in_a_batch * length c.rows + 4)

  more_room : (a b : Archive) (k : Keeping) → b.changes + changes_in_a_batch * length a.rows ≤ a.changes + changes_in_a_batch * length b.rows → Roomy b k → Roomy a k
  more_room a b (Keeping.Goes m c) l r = (r.0, omega (arith, l, r.1))
  more_room a b (Keeping.Fills c) l r = (r.0, omega (arith, l, r.1))
  more_room a b (Keeping.Breaks c d) l r = (r.0, omega (arith, l, r.1))

  only_batch : (batch : List (List ℕ)) (bs : List (List (List ℕ))) (a : Archive) → bs ≡ [] → length a.rows + length (records_in (batch ∷ bs)) ≤ n → length a.rows + length (batch ++ []) ≤ n
  only_batch batch bs a none l = subst (λ x. length a.rows + length (records_in (batch ∷ x)) ≤ n) none l

  stop_room : (stop : Option Stop) (stored : ℕ) (a b : Archive) (batch : List (List ℕ)) → AllRead batch → a.size ≤ bound → length a.rows + length (batch ++ []) ≤ n → StopOf settings stop stored a batch b → Roomy a (Keeping.Breaks a b)
  stop_room stop stored a b batch read s l q =
      let t = q.0 in
      let w : length (with_batch settings a batch) ≤ n = omega (arith, with_length settings a batch read, l, length-append batch []) in
      let f = left_fits (is_early t) (opens_gate t a) t stored a batch read s w q.1 in
      subst (λ x. (x.size ≤ bound) × (x.changes + changes_in_a_batch * length a.rows ≤ a.changes + changes_in_a_batch * length x.rows + 4)) (sym q.2) (f.0, omega (arith, f.1, f.2))

  pub keeps_room : (stop : Option Stop) (stored : ℕ) (a : Archive) (bs : List (List (List ℕ))) (k : Keeping) → AllRead (records_in bs) → AllSome bs → Keeps settings stop stored a bs k → a.size ≤ bound → length a.rows + length (records_in bs) ≤ n → Roomy a k
  keeps_room stop stored a [] k read some h s l = subst (Roomy a) (sym h) (s, omega arith)
  keeps_room stop stored a (batch ∷ bs) k read some (inl (b, is, again)) s l =
      let q : b ≡ appended settings a batch = stored_is settings stop stored a b batch is in
      let z : length (batch ++ records_in bs) ≡ length batch + length (records_in bs) = length-append batch (records_in bs) in
      let w : length (with_batch settings a batch) ≡ length a.rows + length batch = with_length settings a batch (read_front batch (records_in bs) read) in
      let bl : length b.rows ≡ length a.rows + length batch = ap (λ x. length x.rows) q ∙ w in
      let bs_ : b.size ≤ bound = subst (λ x. x.size ≤ bound) (sym q) (needed_fits a (with_batch settings a batch) s (omega (arith, w, z, l))) in
      more_room a b k (omega (arith, ap (λ x. x.changes) q, bl, some.0)) (keeps_room stop (stored + 1) b bs k (read_back batch (records_in bs) read) some.1 again bs_ (omega (arith, bl, z, l)))
  keeps_room stop stored a (batch ∷ bs) k read some (inr (inl (is, none, end))) s l = subst (Roomy a) (sym end) (s, omega arith)
  keeps_room stop stored a (batch ∷ bs) k read some (inr (inr (b, is, none, end))) s l =
      subst (Roomy a) (sym end) (stop_room stop stored a b batch (read_front batch (records_in bs) read) s (only_batch batch bs a none l) (stop_of settings stop stored a b batch is))
