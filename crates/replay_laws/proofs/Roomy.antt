-- A whole run stays within its room.
use Rattle.std.proofs.Common.{◌≡◌, ◌≢◌, ℕ, ◌+◌, ◌*◌, ◌≤◌, ◌==◌, if◌then◌else◌, Bool, true, false, ◌||◌, ◌&&◌, ◌⊎◌, inl, inr, List, [], ◌∷◌, ◌++◌, length, Option, Some, None, refl, sym, ◌∙◌, ap, subst, arith, append_assoc}
use Rattle.std.specs.Prelude.{nat_lt}
use Rattle.loop_packet.specs.declared.packet.LoopPacket.{LoopPacket}
use Rattle.station_base.specs.declared.row.Row.{Row}
use Rattle.settings_file.specs.StationSettings.{StationSettings}
use Rattle.disk_model.specs.Picked.{picked_length}
use Rattle.console_model.specs.Valid.{EachFollows}
use Rattle.dmpaft_pump.specs.Batch.{records_in}
use Rattle.dmpaft_pump.specs.declared.outcome.DumpEnd.TheVariants as dump_end
use Rattle.packed_rows.specs.Rising.{last_row_stamp}
use Rattle.schedule_file.specs.Fates.{FatesByNumber}
use Rattle.station_sim.specs.Falling.{FallDue}
use Rattle.station_sim.specs.Line.{Line}
use Rattle.station_sim.specs.Talk.{started}
use Rattle.station_sim.specs.Calm.{IsCalm}
use Rattle.station_sim.specs.Sound.{AreRecords, IsSound, AreSound}
use Rattle.line_laws.specs.Records.{Now}
use Rattle.schedule_file.specs.declared.schedule.step.Stop.{Stop}
use Rattle.replay_laws.specs.Schedule.{ReplayStep, IsStep, AreSteps, IsSchedule, records}
use Rattle.replay_laws.specs.Keeping.{Archive, slots_for_rows}
use Rattle.replay_laws.proofs.RoundAttempts.{Keeping, Tries}
use Rattle.replay_laws.proofs.Bridge.{followed}
use Rattle.replay_laws.specs.Round.{Ending, LineAttempt, finished}
use Rattle.replay_laws.specs.Replay.{Item, Stage, Does, Runs, Opens, recovered, opened, stops_opening, cut_short, is_stop, after_round, start}
use Rattle.replay_laws.specs.DumpCounts.{DumpCount, DumpsGather, counts_of_attempt}
use Rattle.replay_laws.specs.Kept.{Past, no_past}
use Rattle.station_session.specs.declared.round_end.RoundEnd.{RoundEnd}
use Rattle.station_session.specs.declared.round_end.RoundEnd.TheVariants as round_end
use Rattle.station_session.specs.Attempts.{MadeAttempt, AreAttempts, all_said, all_batches}
use Rattle.station_session.specs.Batches.{Fit as Fits}
use Rattle.station_sim.specs.Talk.{ConsoleTalk}
use Rattle.gated_log.specs.Layout.{empty_size, slot_size}
use Rattle.replay_laws.specs.Room.{AreFew, lines, step_lines, changes_in_a_turn}
use Rattle.line_laws.proofs.Records.{begun_more}
use Rattle.replay_laws.proofs.GivenBatches.{keeps_part}
use Rattle.replay_laws.proofs.CountedRows.{few_of, stamp_of}
use Rattle.replay_laws.proofs.Rounds.{all_front, kept_front, one_law, tries_unseen, gathered_join, plain_as}
use Rattle.replay_laws.proofs.WholeRun.{At, Stood, IsPast, past_behind, step_law, goes_at, goes_past, start_past, adds, records_adds, start_at, steps_first, records_join, runs_so, follows_front, runs_law}
use Rattle.replay_laws.proofs.Room.{Roomy, keeps_room, picked_between}
use Rattle.replay_laws.proofs.Wanted.{all_fit, read_of_batches, some_of, round_few}
use Rattle.gated_log.specs.Calls.{changes_in_a_batch}

module _ (settings : StationSettings) (r : List (List ℕ)) (rises : EachFollows [] r) (are : AreRecords r) (bound : ℕ) (fit : (rows : List Row) → length rows ≤ length r → slot_size * (slots_for_rows rows + 1) + 1 ≤ bound) where
  module _ (f : FatesByNumber) (ok : AreSound f) (left : ℕ → List (List ℕ)) (falls : FallDue f left) (all more : List (List ℕ)) (up : EachFollows [] all) (whole : all ++ more ≡ r) where
    abbrev InRoom : Archive → Archive → Type 0
    InRoom a at = (at.size ≤ bound) × (at.changes + changes_in_a_batch * length a.rows ≤ a.changes + changes_in_a_batch * length at.rows + 4)

    tries_room : (stop : Option Stop) (n m : ℕ) (d : List DumpCount) (a : Archive) (w : Line) (ts : List LineAttempt) (end : Ending) (kept at : Archive) (v : Line) → Tries settings f stop n m a w ts end kept at v → IsCalm w → IsSound w → Now left all w → v.unseen ≡ None →
        DumpsGather settings r d [] a.rows → a.size ≤ bound → InRoom a at
    tries_room stop n m d a w [] end kept at v (three, gave, k, l, is) calm sound now un g s = subst (InRoom a) (sym l) (s, omega arith)
    tries_room stop n m d a w (t ∷ ts) end kept at v (less, (x, b, k, inl (i, keeps, (trouble, failed), again))) calm sound now un g s =
        let u = tries_unseen settings f ok left falls all up r more whole stop (n + 1) i b x ts end kept at v again un in
        let p = keeps_part settings stop m a t.batches (Keeping.Goes i b) keeps in
        let plain = plain_as settings f ok left falls all up r more whole t.made.end (dump_end.Failed trouble) failed tt in
        let one = one_law settings f ok left falls all up r more whole a.rows b.rows w x t calm sound now (stamp_of settings r rises are d a.rows g) k plain u (records_in t.batches) p.0 (all_front t.batches) (kept_front t.made.end t.batches) in
        let q : Roomy settings (length r) bound fit a (Keeping.Goes i b) = keeps_room settings (length r) bound fit stop m a t.batches (Keeping.Goes i b) (read_of_batches settings f ok left falls all more up r whole rises are a.rows b.rows w x t k) (some_of settings f ok left falls all more up r whole rises are a.rows b.rows w x t k) keeps s (all_fit settings f ok left falls all more up r whole rises are d a.rows b.rows w x t calm sound now k plain u g) in
        let y = tries_room stop (n + 1) i (d ++ counts_of_attempt t) b x ts end kept at v again one.calm one.sound one.now un (gathered_join settings r d (counts_of_attempt t) [] a.rows b.rows g one.gathers) q.0 in
        (y.0, omega (arith, q.1, y.1))
    tries_room stop n m d a w (t ∷ ts) end kept at v (less, (x, b, k, inr (inl (i, keeps, end_is, none, ended, kb, lb, is)))) calm sound now un g s =
        let plain = plain_as settings f ok left falls all up r more whole t.made.end dump_end.Whole end_is tt in
        let q : Roomy settings (length r) bound fit a (Keeping.Goes i b) = keeps_room settings (length r) bound fit stop m a t.batches (Keeping.Goes i b) (read_of_batches settings f ok left falls all more up r whole rises are a.rows b.rows w x t k) (some_of settings f ok left falls all more up r whole rises are a.rows b.rows w x t k) keeps s (all_fit settings f ok left falls all more up r whole rises are d a.rows b.rows w x t calm sound now k plain (ap (λ z. z.unseen) (sym is) ∙ un) g) in
        subst (InRoom a) (sym lb) (q.0, omega (arith, q.1))
    tries_room stop n m d a w (t ∷ ts) end kept at v (less, (x, b, k, inr (inr (inl (keeps, refused, none, full, kb, lb, is))))) calm sound now un g s =
        let plain = plain_as settings f ok left falls all up r more whole t.made.end dump_end.Full refused tt in
        let q : Roomy settings (length r) bound fit a (Keeping.Fills b) = keeps_room settings (length r) bound fit stop m a t.batches (Keeping.Fills b) (read_of_batches settings f ok left falls all more up r whole rises are a.rows b.rows w x t k) (some_of settings f ok left falls all more up r whole rises are a.rows b.rows w x t k) keeps s (all_fit settings f ok left falls all more up r whole rises are d a.rows b.rows w x t calm sound now k plain (ap (λ z. z.unseen) (sym is) ∙ un) g) in
        subst (InRoom a) (sym lb) (q.0, omega (arith, q.1))
    tries_room stop n m d a w (t ∷ ts) end kept at v (less, (x, b, k, inr (inr (inr (keeps, refused, none, stops, lb, is))))) calm sound now un g s =
        let plain = plain_as settings f ok left falls all up r more whole t.made.end dump_end.DiskFault refused tt in
        let q : Roomy settings (length r) bound fit a (Keeping.Breaks kept b) = keeps_room settings (length r) bound fit stop m a t.batches (Keeping.Breaks kept b) (read_of_batches settings f ok left falls all more up r whole rises are a.rows b.rows w x t k) (some_of settings f ok left falls all more up r whole rises are a.rows b.rows w x t k) keeps s (all_fit settings f ok left falls all more up r whole rises are d a.rows b.rows w x t calm sound now k plain (ap (λ z. z.unseen) (sym is) ∙ un) g) in
        subst (InRoom a) (sym lb) (q.0, omega (arith, q.1))

  -- what a stage takes, after so many lines
  pub record Fit (s : Stage) (k : ℕ) : Type 0 where
    pub size : s.archive.size ≤ bound
    pub changes : s.archive.changes ≤ changes_in_a_batch * length s.archive.rows + changes_in_a_turn * k

  few_changes : (t : Bool) → (if t then 1 else 3) ≤ 3
  few_changes true = omega arith
  few_changes false = omega arith

  at_least : empty_size ≤ bound
  at_least = omega (arith, fit [] (omega arith))

  fit_moved : (s u : Stage) (k : ℕ) → u.archive ≡ s.archive → Fit s k → Fit u k
  fit_moved s u k is z = record { size = omega (arith, z.size, ap (λ y. y.size) is); changes = omega (arith, z.changes, ap (λ y. y.changes) is, ap (λ y. length y.rows) is) }

  fit_recovered : (s : Stage) (k : ℕ) → Fit s k → Fit (recovered s) (k + 1)
  fit_recovered s k z = record { size = omega (arith, z.size, at_least); changes = omega (arith, z.changes, few_changes (nat_lt empty_size s.archive.size)) }

  reached_within : (change size : ℕ) → stops_opening change size ≡ true → (change ≤ 3) × (size ≤ empty_size ⊎ change ≡ 1)
  reached_within change size h = go (change == 1) (change == 2) (change == 3) (nat_lt empty_size size) refl refl refl refl h
    where
      go : (x y z t : Bool) → (change == 1) ≡ x → (change == 2) ≡ y → (change == 3) ≡ z → nat_lt empty_size size ≡ t → (x || ((y || z) && (if t then false else true))) ≡ true → (change ≤ 3) × (size ≤ empty_size ⊎ change ≡ 1)
      go true y z t a b c d h = let q : change ≡ 1 = grind (arith, a) in (omega (arith, q), inr q)
      go false true z false a b c d h = (let q : change ≡ 2 = grind (arith, b) in omega (arith, q), inl (grind (arith, d)))
      go false true z true a b c d h = absurd cc
      go false false true false a b c d h = (let q : change ≡ 3 = grind (arith, c) in omega (arith, q), inl (grind (arith, d)))
      go false false true true a b c d h = absurd cc
      go false false false t a b c d h = absurd cc

  cut_size : (k : Stop) (s : Stage) → s.archive.size ≤ bound → (s.archive.size ≤ empty_size) ⊎ (k.change ≡ 1) → (cut_short k s).archive.size ≤ bound
  cut_size k s z h = go (k.change == 1) refl h
    where
      go : (t : Bool) → (k.change == 1) ≡ t → (s.archive.size ≤ empty_size) ⊎ (k.change ≡ 1) → (if t then s.archive.size else picked_length k.pick s.archive.size empty_size) ≤ bound
      go true e h = z
      go false e (inl l) = omega (arith, at_least, picked_between k.pick s.archive.size empty_size l)
      go false e (inr l) = absurd (let q : k.change ≢ 1 = grind (arith, e) in q l)

  fit_opens : (t : Bool) (k : Stop) (n : ℕ) (s u : Stage) (is : List Item) → stops_opening k.change s.archive.size ≡ t → Fit s n → Opens t k s is u → Fit u (n + 1)
  fit_opens true k n s u is h z (i, next) =
      let q = reached_within k.change s.archive.size h in
      subst (λ y. Fit y (n + 1)) (sym next) (record { size = cut_size k s z.size q.1; changes = omega (arith, z.changes, q.0) })
  fit_opens false k n s u is h z (i, next) = subst (λ y. Fit y (n + 1)) (sym next) (fit_recovered s n z)

  opened_fit : (t : Bool) (n : ℕ) (s : Stage) → Fit s n → ((opened t s).archive.size ≤ bound) × ((opened t s).archive.changes ≤ changes_in_a_batch * length (opened t s).archive.rows + changes_in_a_turn * n + 3) × ((opened t s).line ≡ s.line) × ((opened t s).archive.rows ≡ s.archive.rows)
  opened_fit true n s z = (z.size, omega (arith, z.changes), refl, refl)
  opened_fit false n s z = (omega (arith, z.size, at_least), omega (arith, z.changes, few_changes (nat_lt empty_size s.archive.size)), refl, refl)

  after_is : (t : Bool) (s : Stage) (a : Archive) (w : Line) → (after_round t s a w).archive ≡ a
  after_is true s a w = refl
  after_is false s a w = refl

  fit_step : (x : ReplayStep) (done more : List (List ℕ)) (d : List DumpCount) (n : ℕ) (s u : Stage) (is : List Item) → IsStep x → (done ++ adds settings r rises are x) ++ more ≡ r → Stood done s → DumpsGather settings r d [] s.archive.rows → Fit s n → Does settings x s is u → Fit u (step_lines x + n)
  unfolding adds
  fit_step (ReplayStep.Due rs) done more d n s u is ok whole a g z (none, next) = subst (Fit u) (let y : n ≡ 0 + n = omega arith in y) (fit_moved s u n (ap (λ y. y.archive) next) z)
  fit_step (ReplayStep.Idle k) done more d n s u is ok whole a g z (none, next) = subst (Fit u) (let y : n ≡ 0 + n = omega arith in y) (fit_moved s u n (ap (λ y. y.archive) next) z)
  fit_step (ReplayStep.Open None) done more d n s u is ok whole a g z (i, next) = subst (Fit u) (let y : n + 1 ≡ 1 + n = omega arith in y) (subst (λ y. Fit y (n + 1)) (sym next) (fit_recovered s n z))
  fit_step (ReplayStep.Open (Some k)) done more d n s u is ok whole a g z h = subst (Fit u) (let y : n + 1 ≡ 1 + n = omega arith in y) (fit_opens (stops_opening k.change s.archive.size) k n s u is refl z h)
  fit_step (ReplayStep.Round f left stop) done more d n s u is ok whole a g z (x, round, i) =
      let k = followed settings f stop left (opened s.is_open s) x u round in
      let o = opened_fit s.is_open n s z in
      let up = follows_front [] (done ++ left 0) more (subst (EachFollows []) (sym whole) rises) in
      let w = (opened s.is_open s).line in
      let al : At done (opened s.is_open s).line = subst (At done) (sym o.2) a.at in
      let q = tries_room f ok.0 left ok.1 (done ++ left 0) more up whole stop 0 0 d (opened s.is_open s).archive (started (opened s.is_open s).line) x.tried x.end k.kept k.archive k.line k.tries
      (record { begun = al.calm.begun; brief = al.calm.brief; bytes = al.calm.bytes; closed = al.calm.closed; waits = al.calm.waits })
      (record { valid = al.sound.valid; rises = al.sound.rises; records = al.sound.records })
      (record { sum = ap (λ y. y ++ left 0) al.recs; tidy = al.tidy; begun = begun_more done (left 0) (done ++ left 0) w.dumps al.begun refl }) k.seen
      (subst (DumpsGather settings r d []) (sym o.3) g) o.0 in
      let ua : u.archive ≡ k.archive = ap (λ y. y.archive) k.next ∙ after_is (is_stop x.end) (opened s.is_open s) k.archive (finished left k.line) in
      in_room u k.archive (opened s.is_open s).archive n ua q o.1
    where
      in_room : (u : Stage) (b c : Archive) (n : ℕ) → u.archive ≡ b → (b.size ≤ bound) × (b.changes + changes_in_a_batch * length c.rows ≤ c.changes + changes_in_a_batch * length b.rows + 4) → c.changes ≤ changes_in_a_batch * length c.rows + changes_in_a_turn * n + 3 → Fit u (1 + n)
      in_room u b c n is q h = record { size = omega (arith, q.0, ap (λ y. y.size) is); changes = omega (arith, q.1, h, ap (λ y. y.changes) is, ap (λ y. length y.rows) is) }

  runs_room : (xs : List ReplayStep) (done more : List (List ℕ)) (p : Past) (n : ℕ) (s u : Stage) (is : List Item) → AreSteps xs → (done ++ records xs) ++ more ≡ r → Stood done s → IsPast settings r s p → Fit s n → Runs settings xs s is u → Fit u (lines xs + n)
  runs_room [] done more p n s u is ok whole a so z (none, same) = subst (Fit u) (let y : n ≡ 0 + n = omega arith in y) (subst (λ y. Fit y n) (sym same) z)
  runs_room (x ∷ xs) done more p n s u is ok whole a so z (mid, now, rest, split, does, again) =
      let ad = adds settings r rises are x in
      let e1 : done ++ records (x ∷ xs) ≡ (done ++ ad) ++ records xs = ap (λ y. done ++ y) (records_adds settings r rises are x xs) ∙ sym (append_assoc done ad (records xs)) in
      let w1 : (done ++ ad) ++ (records xs ++ more) ≡ r = sym (append_assoc (done ++ ad) (records xs) more) ∙ ap (λ y. y ++ more) (sym e1) ∙ whole in
      let w2 : ((done ++ ad) ++ records xs) ++ more ≡ r = ap (λ y. y ++ more) (sym e1) ∙ whole in
      let one = step_law settings r rises are x done (records xs ++ more) s mid now ok.0 w1 a does in
      let b = goes_past settings r rises are (done ++ ad) s mid now one p so in
      let f = fit_step x done (records xs ++ more) p.dumps n s mid now ok.0 w1 a so.gathered z does in
      subst (Fit u) (let y : lines xs + (step_lines x + n) ≡ step_lines x + lines xs + n = omega arith in y)
      (runs_room xs (done ++ ad) more (past_behind p now) (step_lines x + n) mid u rest ok.1 w2 (goes_at settings r rises are (done ++ ad) s mid now one) b f again)

-- a run takes no more than this
pub room_law : (settings : StationSettings) (eeprom : List ℕ) (packet : LoopPacket) (steps more : List ReplayStep) → IsSchedule (steps ++ more) → (bound : ℕ) → ((rows : List Row) → length rows ≤ length (records (steps ++ more)) → slot_size * (slots_for_rows rows + 1) + 1 ≤ bound) →
    (is : List Item) (u : Stage) → Runs settings steps (start eeprom packet) is u → (u.archive.size ≤ bound) × (u.archive.changes ≤ changes_in_a_batch * length u.archive.rows + changes_in_a_turn * lines steps) × (length u.archive.rows ≤ length (records (steps ++ more)))
room_law settings eeprom packet steps more ok bound fit is u runs =
    let r = records (steps ++ more) in
    let whole : ([] ++ records steps) ++ records more ≡ r = sym (records_join steps more) in
    let some = steps_first steps more ok.each in
    let z = runs_room settings (records (steps ++ more)) ok.rises ok.are_records bound fit steps [] (records more) no_past 0 (start eeprom packet) u is some whole (start_at settings (records (steps ++ more)) ok.rises ok.are_records eeprom packet) (start_past settings (records (steps ++ more)) ok.rises ok.are_records eeprom packet)
    (record { size = omega arith; changes = omega arith }) runs in
    let so = runs_so settings eeprom packet steps more ok is u runs in
    let n = few_of settings (records (steps ++ more)) ok.rises ok.are_records so.0 u.archive.rows so.1 in
    (z.size, omega (arith, z.changes), n)

step_in : (xs ys : List ReplayStep) (x : ReplayStep) → AreSteps (xs ++ x ∷ ys) → IsStep x
step_in [] ys x h = h.0
step_in (y ∷ xs) ys x h = step_in xs ys x h.1

-- a round of a run, whatever its stop: it does not flood, and what it gives is counted
pub round_in_run : (settings : StationSettings) (eeprom : List ℕ) (packet : LoopPacket) (xs ys : List ReplayStep) (f : FatesByNumber) (left : ℕ → List (List ℕ)) (stop : Option Stop) → IsSchedule (xs ++ ReplayStep.Round f left stop ∷ ys)
    → (is : List Item) (u : Stage) → Runs settings xs (start eeprom packet) is u → (v : Line) (ts : List MadeAttempt) (end : RoundEnd) → AreAttempts 0 (last_row_stamp u.archive.rows) ts end → Fits settings.most (length u.archive.rows) (all_batches (last_row_stamp u.archive.rows) ts)
    → ConsoleTalk f (all_said ts) (started u.line) v → end ≢ round_end.LinkFault → end ≢ round_end.OutOfMemory → end ≢ round_end.Stale → v.unseen ≡ None
    → (end ≢ round_end.Flood) × AreFew (length (records (xs ++ ReplayStep.Round f left stop ∷ ys))) u.archive.rows (all_batches (last_row_stamp u.archive.rows) ts)
round_in_run settings eeprom packet xs ys f left stop ok is u runs v ts end attempts fit talks link memory fresh un =
    let steps = xs ++ ReplayStep.Round f left stop ∷ ys in
    let r = records steps in
    let whole : records xs ++ records (ReplayStep.Round f left stop ∷ ys) ≡ r = sym (records_join xs (ReplayStep.Round f left stop ∷ ys)) in
    let round_is : (records xs ++ left 0) ++ records ys ≡ r = append_assoc (records xs) (left 0) (records ys) ∙ whole in
    let h = runs_law settings (records (xs ++ ReplayStep.Round f left stop ∷ ys)) ok.rises ok.are_records xs [] (records (ReplayStep.Round f left stop ∷ ys)) (start eeprom packet) u is (steps_first xs (ReplayStep.Round f left stop ∷ ys) ok.each) whole (start_at settings (records (xs ++ ReplayStep.Round f left stop ∷ ys)) ok.rises ok.are_records eeprom packet) runs in
    let at = (goes_at settings (records (xs ++ ReplayStep.Round f left stop ∷ ys)) ok.rises ok.are_records (records xs) (start eeprom packet) u is h).at in
    let so = runs_so settings eeprom packet xs (ReplayStep.Round f left stop ∷ ys) ok is u runs in
    let one = step_in xs ys (ReplayStep.Round f left stop) ok.each in
    let up = follows_front [] (records xs ++ left 0) (records ys) (subst (EachFollows []) (sym round_is) ok.rises) in
    round_few settings f one.0 left one.1 (records xs ++ left 0) (records ys) up (records (xs ++ ReplayStep.Round f left stop ∷ ys)) round_is ok.rises ok.are_records 0 0 so.0 u.archive (started u.line) v ts end attempts fit talks link memory fresh
    (record { begun = at.calm.begun; brief = at.calm.brief; bytes = at.calm.bytes; closed = at.calm.closed; waits = at.calm.waits })
    (record { valid = at.sound.valid; rises = at.sound.rises; records = at.sound.records })
    (record { sum = ap (λ y. y ++ left 0) at.recs; tidy = at.tidy; begun = begun_more (records xs) (left 0) (records xs ++ left 0) u.line.dumps at.begun refl })
    un so.1
