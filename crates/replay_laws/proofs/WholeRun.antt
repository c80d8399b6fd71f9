-- A whole run.
use Rattle.std.proofs.Common.{◌≡◌, ◌≢◌, ℕ, zero, suc, ◌+◌, ◌-◌, ◌/◌, ◌≤◌, Bool, true, false, ◌⊎◌, inl, inr, List, [], ◌∷◌, ◌++◌, length, take, drop, Option, Some, None, refl, sym, ◌∙◌, ap, subst, arith, append_assoc, append-nil, length-append}
use Rattle.std.proofs.lemmas.List.{take-append-drop, take-append-le, take_all}
use Rattle.std.proofs.Math.Seq.{drop-append_seam}
use Rattle.causes.specs.Lists.{IsFrontOf}
use Rattle.loop_packet.specs.declared.packet.LoopPacket.{LoopPacket}
use Rattle.station_base.specs.declared.row.Row.{Row}
use Rattle.settings_file.specs.StationSettings.{StationSettings}
use Rattle.packed_rows.specs.Rising.{last_row_stamp, rows_rise}
use Rattle.console_model.specs.Due.{due}
use Rattle.console_model.specs.Laws.{records_of}
use Rattle.console_model.specs.Tick.{tick}
use Rattle.console_model.specs.Valid.{EachFollows, IsTidy}
use Rattle.schedule_file.specs.Fates.{FatesByNumber}
use Rattle.station_sim.specs.Falling.{FallDue}
use Rattle.station_sim.specs.Line.{Line, happens, waited, due_all}
use Rattle.station_sim.specs.Talk.{idles, started}
use Rattle.station_sim.specs.Calm.{IsCalm, AreMild}
use Rattle.station_sim.specs.Sound.{AreRecords, IsSound, AreSound}
use Rattle.station_sim.proofs.SoundLines.{is_well, is_sound, well_due_all, well_happens, well_ticked, records_front}
use Rattle.line_laws.specs.Gathers.{IsStamp}
use Rattle.line_laws.specs.Records.{BegunIn, Now}
use Rattle.schedule_file.specs.declared.schedule.step.Stop.{Stop}
use Rattle.replay_laws.specs.Schedule.{ReplayStep, IsStep, AreSteps, IsSchedule, records}
use Rattle.schedule_file.specs.Lists.{no_fates}
use Rattle.replay_laws.specs.Keeping.{Archive, batches_before}
use Rattle.replay_laws.specs.Round.{Ending, finished}
use Rattle.replay_laws.specs.Replay.{Rounded, Item, Stage, IsRound, IsUnseenRound, Does, Runs, Opens, IsReplay, RunIsBegun, on_line, recovered, opening, opening_if_closed, opened, stops_opening, is_stop, after_round, closing_items, start}
use Rattle.replay_laws.specs.DumpCounts.{DumpCount, DumpsGather, dump_counts}
use Rattle.replay_laws.specs.Kept.{Past, no_past, past_with_item, rows_printed, HoldsRows, HoldsOpening, HoldsRound, HoldsEnd, KeptFrom, Kept, batches_given}
use Rattle.packed_rows.proofs.RowLaws.{rise_tells}
use Rattle.weather_reports.proofs.RecomputedDays.{day_lines_law}
use Rattle.replay_laws.proofs.Bridge.{Followed, followed}
use Rattle.line_laws.proofs.Between.{calm_tick, calm_due}
use Rattle.line_laws.proofs.Records.{begun_more, sums_tick, fallen_all}
use Rattle.replay_laws.proofs.GivenBatches.{and_rows}
use Rattle.replay_laws.proofs.CountedRows.{rise_of, gathered_stamp}
use Rattle.replay_laws.proofs.Rounds.{Made, tries_law, gathered_join, front_join}

-- where a run stands, these records having fallen due
pub record At (r : List (List ℕ)) (w : Line) : Type 0 where
  pub calm : IsCalm w
  pub sound : IsSound w
  pub recs : records_of w.console ≡ r
  pub tidy : IsTidy w.console.state w.console.held
  pub begun : BegunIn r w.dumps

-- the same of a stage
pub record Stood (r : List (List ℕ)) (s : Stage) : Type 0 where
  pub at : At r s.line
  pub stamp : IsStamp (last_row_stamp s.archive.rows)

-- this is what is known where a run stands
pub record IsPast (settings : StationSettings) (r : List (List ℕ)) (s : Stage) (p : Past) : Type 0 where
  pub gathered : DumpsGather settings r p.dumps [] s.archive.rows
  pub rows : p.rows ≡ s.archive.rows
  pub least : p.acknowledged ≤ length s.archive.rows
  pub written : p.written ≡ take s.written s.archive.rows
  pub within : s.written ≤ length s.archive.rows
  pub shown : s.is_open ≡ true → s.written ≡ length s.archive.rows

-- what is known behind some items
abbrev pub past_behind : Past → List Item → Past
past_behind p [] = p
past_behind p (i ∷ is) = past_behind (past_with_item p i) is

behind_join : (p : Past) (xs ys : List Item) → past_behind p (xs ++ ys) ≡ past_behind (past_behind p xs) ys
behind_join p [] ys = refl
behind_join p (x ∷ xs) ys = behind_join (past_with_item p x) xs ys

kept_join : (settings : StationSettings) (r : List (List ℕ)) (p : Past) (xs ys : List Item) → KeptFrom settings r p xs → KeptFrom settings r (past_behind p xs) ys → KeptFrom settings r p (xs ++ ys)
kept_join settings r p [] ys h k = k
kept_join settings r p (x ∷ xs) ys h k = (h.0, kept_join settings r (past_with_item p x) xs ys h.1 k)

mild_none : AreMild no_fates
mild_none n = omega arith

pub follows_front : (h xs ys : List (List ℕ)) → EachFollows h (xs ++ ys) → EachFollows h xs
follows_front h [] ys k = tt
follows_front h (x ∷ xs) ys k = (k.0, follows_front (h ++ x ∷ []) xs ys k.1)

records_back : (xs ys : List (List ℕ)) → AreRecords (xs ++ ys) → AreRecords ys
records_back [] ys h = h
records_back (x ∷ xs) ys h = records_back xs ys h.2

calm_all : (rs : List (List ℕ)) (w : Line) → IsCalm w → IsCalm (record w { console = due_all rs w.console })
calm_all [] w k = k
calm_all (x ∷ rs) w k = calm_all rs (record w { console = due x w.console }) (calm_due x w k)

-- records fall due
at_waited : (rs r : List (List ℕ)) (w : Line) → EachFollows [] (r ++ rs) → AreRecords rs → At r w → At (r ++ rs) (waited rs w)
at_waited rs r w h are k =
    let q = fallen_all rs w.console [] (r ++ rs) h k.tidy (ap (λ x. records_of w.console ++ x) (append-nil rs) ∙ ap (λ x. x ++ rs) k.recs) in
    let c = calm_all rs w k.calm in
    record {
      calm = record { begun = c.begun; brief = c.brief; bytes = c.bytes; closed = c.closed; waits = c.waits };
      sound = is_sound (waited rs w) (well_due_all rs w.console are (is_well w k.sound));
      recs = sym (append-nil (records_of (due_all rs w.console))) ∙ q.0;
      tidy = q.1;
      begun = begun_more r rs (r ++ rs) w.dumps k.begun refl;
    }

at_tick : (r : List (List ℕ)) (w : Line) → At r w → At r (happens no_fates (tick w.console) w)
at_tick r w k =
    let q = sums_tick no_fates w [] r (record { sum = append-nil (records_of w.console) ∙ k.recs; tidy = k.tidy; begun = k.begun }) in
    let v = happens no_fates (tick w.console) w in
    record {
      calm = calm_tick no_fates mild_none w k.calm;
      sound = is_sound v (well_happens no_fates (tick w.console) w (well_ticked w.console (is_well w k.sound)));
      recs = sym (append-nil (records_of v.console)) ∙ q.sum;
      tidy = q.tidy;
      begun = q.begun;
    }

at_idles : (n : ℕ) (r : List (List ℕ)) (w : Line) → At r w → At r (idles no_fates n w)
at_idles zero r w k = k
at_idles (suc n) r w k = at_idles n r (happens no_fates (tick w.console) w) (at_tick r w k)

-- what is still to fall due in a round are records
left_records : (f : FatesByNumber) (left : ℕ → List (List ℕ)) → FallDue f left → AreRecords (left 0) → (n : ℕ) → AreRecords (left n)
left_records f left falls h zero = h
left_records f left falls h (suc n) = subst (λ m. AreRecords (left m)) (let e : n + 1 ≡ suc n = omega arith in e) (records_back (f.mids (n + 1)) (left (n + 1)) (subst AreRecords (falls n) (left_records f left falls h n)))

-- the end of a round
at_finished : (left : ℕ → List (List ℕ)) (all : List (List ℕ)) (v : Line) → EachFollows [] all → AreRecords (left v.messages) → IsCalm v → IsSound v → Now left all v → At all (finished left v)
at_finished left all v h are c s n =
    let q = fallen_all (left v.messages) v.console [] all h n.tidy (ap (λ x. records_of v.console ++ x) (append-nil (left v.messages)) ∙ n.sum) in
    let k = calm_all (left v.messages) v c in
    record {
      calm = record { begun = k.begun; brief = k.brief; bytes = k.bytes; closed = k.closed; waits = k.waits };
      sound = is_sound (finished left v) (well_due_all (left v.messages) v.console are (is_well v s));
      recs = sym (append-nil (records_of (due_all (left v.messages) v.console))) ∙ q.0;
      tidy = q.1;
      begun = n.begun;
    }

opened_rows : (t : Bool) (s : Stage) → ((opened t s).archive.rows ≡ s.archive.rows) × ((opened t s).line ≡ s.line)
opened_rows true s = (refl, refl)
opened_rows false s = (refl, refl)

after_archive : (t : Bool) (s : Stage) (a : Archive) (w : Line) → ((after_round t s a w).archive ≡ a) × ((after_round t s a w).line ≡ w)
after_archive true s a w = (refl, refl)
after_archive false s a w = (refl, refl)

module _ (settings : StationSettings) (r : List (List ℕ)) (rises : EachFollows [] r) (are : AreRecords r) where
  -- what a step leaves, and what is kept of its items
  pub Goes : List (List ℕ) → Stage → List Item → Stage → Type 0
  Goes done s is u = Stood done u × ((p : Past) → IsPast settings r s p → KeptFrom settings r p is × IsPast settings r u (past_behind p is))

  stamps_rise : (d : List DumpCount) (rows : List Row) → DumpsGather settings r d [] rows → rows_rise None rows ≡ true
  stamps_rise d rows g = rise_of settings r rises are d rows g

  -- an archive that is found again
  found : (s : Stage) (p : Past) → IsPast settings r s p → HoldsRows settings r p s.archive.rows
  found s p z = record {
    gathers = z.gathered;
    grows = ([], append-nil p.rows ∙ z.rows);
    has_acknowledged = z.least;
    once = stamps_rise p.dumps s.archive.rows z.gathered;
  }

  holds_opening : (s : Stage) (p : Past) → IsPast settings r s p → HoldsOpening settings r p s.archive.rows s.written
  holds_opening s p z = record { found = found s p z; prints = ap (λ y. y ++ drop s.written s.archive.rows) z.written ∙ take-append-drop s.written s.archive.rows }

  past_recovered : (s : Stage) (p : Past) → IsPast settings r s p → IsPast settings r (recovered s) (past_with_item p (opening s))
  past_recovered s p z = record { gathered = z.gathered; rows = refl; least = z.least; written = sym (take_all (length s.archive.rows) s.archive.rows (omega arith)); within = omega arith; shown = λ x. refl }

  -- all rows are written while a session is open
  all_written : (s : Stage) (p : Past) → IsPast settings r s p → s.is_open ≡ true → p.written ≡ s.archive.rows
  all_written s p z op = z.written ∙ ap (λ y. take y s.archive.rows) (z.shown op) ∙ take_all (length s.archive.rows) s.archive.rows (omega arith)

  holds_end : (s : Stage) (p : Past) → IsPast settings r s p → s.is_open ≡ true → HoldsEnd settings r p s.archive.rows
  holds_end s p z op = record {
    found = found s p z;
    prints = all_written s p z op;
    recomputed = day_lines_law s.archive.rows (rise_tells None s.archive.rows (stamps_rise p.dumps s.archive.rows z.gathered));
  }

  -- a round
  module _ (f : FatesByNumber) (left : ℕ → List (List ℕ)) (is : AreSound f × FallDue f left) (done more : List (List ℕ)) (whole : (done ++ left 0) ++ more ≡ r) where
    up : EachFollows [] (done ++ left 0)
    up = follows_front [] (done ++ left 0) more (subst (EachFollows []) (sym whole) rises)

    are_left : (n : ℕ) → AreRecords (left n)
    are_left n = left_records f left is.1 (records_back done (left 0) (records_front (done ++ left 0) more (subst AreRecords (sym whole) are))) n

    round_made : (stop : Option Stop) (s : Stage) (x : Rounded) (u : Stage) → Stood done s → (k : Followed settings f stop left s x u) →
        Made settings f is.0 left is.1 (done ++ left 0) up r more whole 0 0 s.archive x.tried x.end k.kept k.archive k.line
    round_made stop s x u a k =
        tries_law settings f is.0 left is.1 (done ++ left 0) up r more whole stop 0 0 s.archive (started s.line) x.tried x.end k.kept k.archive k.line k.tries
        (record { begun = a.at.calm.begun; brief = a.at.calm.brief; bytes = a.at.calm.bytes; closed = a.at.calm.closed; waits = a.at.calm.waits })
        (record { valid = a.at.sound.valid; rises = a.at.sound.rises; records = a.at.sound.records })
        (record { sum = ap (λ y. y ++ left 0) a.at.recs; tidy = a.at.tidy; begun = begun_more done (left 0) (done ++ left 0) s.line.dumps a.at.begun refl }) a.stamp k.seen

    stop_leaves : (x : Rounded) (rows after : List Row) → x.before ≡ rows → x.rows ≡ after → (j b : ℕ) → b ≡ j → length (batches_given x.tried) ≡ j + 1 →
        ((after ≡ and_rows settings rows (take j (batches_given x.tried))) ⊎ (after ≡ and_rows settings rows (take (j + 1) (batches_given x.tried)))) →
        (length (batches_given x.tried) ≡ b + 1) × ((x.rows ≡ and_rows settings x.before (take b (batches_given x.tried))) ⊎ (x.rows ≡ and_rows settings x.before (take (b + 1) (batches_given x.tried))))
    stop_leaves x rows after xb xr j b same size h = (
      size ∙ ap (λ y. y + 1) (sym same),
      elim h [
        | inl z ↦ inl (xr ∙ z ∙ ap (λ y. and_rows settings y (take j (batches_given x.tried))) (sym xb) ∙ ap (λ y. and_rows settings x.before (take y (batches_given x.tried))) (sym same))
        | inr z ↦ inr (xr ∙ z ∙ ap (λ y. and_rows settings y (take (j + 1) (batches_given x.tried))) (sym xb) ∙ ap (λ y. and_rows settings x.before (take (y + 1) (batches_given x.tried))) (sym same))
      ],
    )

    not_stopped : (end : Ending) → is_stop end ≡ false → (k : ℕ) → end ≢ Ending.Stopped k
    not_stopped Ending.Ok h k = λ z. cc
    not_stopped Ending.GaveUp h k = λ z. cc
    not_stopped Ending.Full h k = λ z. cc
    not_stopped (Ending.Stopped j) h k = absurd cc

    -- what is written by a round

    -- what is known behind a round, by whether it was stopped
    past_round : (t : Bool) (s : Stage) (x : Rounded) (a : Archive) (w : Line) (p : Past) → IsPast settings r s p → IsFrontOf s.archive.rows a.rows → DumpsGather settings r (p.dumps ++ dump_counts x.tried) [] a.rows → x.rows ≡ a.rows → length x.kept ≤ length a.rows
        → IsPast settings r (after_round t s a w) (record { dumps = p.dumps ++ dump_counts x.tried; rows = x.rows; acknowledged = length x.kept; written = rows_printed t p.written x })
    past_round true s x a w p z f g xr l =
        let n : s.written ≤ length s.archive.rows = z.within in
        record { gathered = g; rows = xr; least = l; written = z.written ∙ sym (take-append-le s.written s.archive.rows f.0 n) ∙ ap (take s.written) f.1; within = omega (arith, n, ap length f.1, length-append s.archive.rows f.0); shown = λ y. absurd cc }
    past_round false s x a w p z f g xr l =
        record { gathered = g; rows = xr; least = l; written = xr ∙ sym (take_all (length a.rows) a.rows (omega arith)); within = omega arith; shown = λ y. refl }

    -- what is written by a round that was not stopped
    round_prints : (s : Stage) (x : Rounded) (a : Archive) (p : Past) → s.is_open ≡ true → IsPast settings r s p → IsFrontOf s.archive.rows a.rows → x.rows ≡ a.rows → x.written ≡ s.written → p.written ++ drop x.written x.rows ≡ x.rows
    round_prints s x a p op z f xr xw =
        let rest : drop x.written x.rows ≡ f.0 = ap (λ y. drop y x.rows) (xw ∙ z.shown op) ∙ ap (drop (length s.archive.rows)) (xr ∙ sym f.1) ∙ drop-append_seam s.archive.rows f.0 in
        ap (λ y. p.written ++ y) rest ∙ ap (λ y. y ++ f.0) (all_written s p z op) ∙ f.1 ∙ sym xr

    holds_round : (stop : Option Stop) (s : Stage) (x : Rounded) (u : Stage) → IsRound settings f left stop s x u → (k : Followed settings f stop left s x u) → Made settings f is.0 left is.1 (done ++ left 0) up r more whole 0 0 s.archive x.tried x.end k.kept k.archive k.line →
        s.is_open ≡ true → (p : Past) → IsPast settings r s p → HoldsRound settings r p x
    holds_round stop s x u round k z op p so =
        let xb : x.before ≡ s.archive.rows = k.before_is in
        let xk : x.kept ≡ k.kept.rows = k.kept_is in
        let xr : x.rows ≡ k.archive.rows = k.rows_is in
        let got = subst (DumpsGather settings r (p.dumps ++ dump_counts x.tried) []) (sym xr) (gathered_join settings r p.dumps (dump_counts x.tried) [] s.archive.rows k.archive.rows so.gathered z.gathers) in
        record {
          begins = xb ∙ sym so.rows;
          grows = subst (λ y. IsFrontOf y x.kept) (sym so.rows) (subst (IsFrontOf s.archive.rows) (sym xk) z.before);
          leaves = subst (λ y. IsFrontOf y x.rows) (sym xk) (subst (IsFrontOf k.kept.rows) (sym xr) z.after);
          has_acknowledged = omega (arith, z.acked, so.least, ap length xk);
          counts = omega (arith, z.acked, ap length xk, ap length so.rows);
          first = z.first;
          gathers = got;
          once = stamps_rise (p.dumps ++ dump_counts x.tried) x.rows got;
          complete = λ ended. z.complete ended p.dumps so.gathered;
          stopped = λ j en.
              let q = z.stops j en in
              let b : batches_before j ≡ q.0 = omega (arith, q.1) in
              stop_leaves x s.archive.rows k.archive.rows xb xr q.0 (batches_before j) b q.2 q.3;
          gave_up = λ gave. let q = z.harmed gave in (omega (arith, q.0), q.1);
          shows = λ t. xk ∙ ap (λ y. y.rows) (z.same (not_stopped x.end t)) ∙ sym xr;
          prints = λ t. round_prints s x k.archive p op so (front_join s.archive.rows k.kept.rows k.archive.rows z.before z.after) xr k.written_is;
        }

    ran_from : (stop : Option Stop) (s : Stage) (x : Rounded) (u : Stage) → s.is_open ≡ true → Stood done s → IsRound settings f left stop s x u → Goes (done ++ left 0) s (Item.Ran x ∷ []) u
    unfolding Goes
    ran_from stop s x u op a round =
        let k = followed settings f stop left s x u round in
        let z = round_made stop s x u a k in
        let c = after_archive (is_stop x.end) s k.archive (finished left k.line) in
        let ul : u.line ≡ finished left k.line = ap (λ y. y.line) k.next ∙ c.1 in
        let ur : u.archive.rows ≡ k.archive.rows = ap (λ y. y.archive.rows) k.next ∙ ap (λ y. y.rows) c.0 in
        let xk : x.kept ≡ k.kept.rows = k.kept_is in
        let xr : x.rows ≡ k.archive.rows = k.rows_is in (
          record {
            at = subst (At (done ++ left 0)) (sym ul) (at_finished left (done ++ left 0) k.line up (are_left k.line.messages) z.calm z.sound z.now);
            stamp = subst (λ y. IsStamp (last_row_stamp y)) (sym ur) (gathered_stamp settings r rises are (dump_counts x.tried) s.archive.rows k.archive.rows a.stamp z.gathers);
          },
          λ p so.
              let got : DumpsGather settings r (p.dumps ++ dump_counts x.tried) [] k.archive.rows = gathered_join settings r p.dumps (dump_counts x.tried) [] s.archive.rows k.archive.rows so.gathered z.gathers in
              let least : length x.kept ≤ length k.archive.rows = omega (arith, ap length z.after.1, length-append k.kept.rows z.after.0, ap length xk) in
              let known = past_round (is_stop x.end) s x k.archive (finished left k.line) p so (front_join s.archive.rows k.kept.rows k.archive.rows z.before z.after) got xr least in
              ((holds_round stop s x u round k z op p so, tt), subst (λ y. IsPast settings r y (past_with_item p (Item.Ran x))) (sym k.next) known),
        )

  past_moved : (s u : Stage) (p : Past) → u.archive ≡ s.archive → u.is_open ≡ s.is_open → u.written ≡ s.written → IsPast settings r s p → IsPast settings r u p
  past_moved s u p is op wr z =
      let n : u.archive.rows ≡ s.archive.rows = ap (λ y. y.rows) is in
      record {
        gathered = subst (DumpsGather settings r p.dumps []) (sym n) z.gathered;
        rows = z.rows ∙ sym n;
        least = omega (arith, ap length n, z.least);
        written = z.written ∙ ap (λ y. take y s.archive.rows) (sym wr) ∙ ap (take u.written) (sym n);
        within = omega (arith, z.within, wr, ap length n);
        shown = λ y. wr ∙ z.shown (sym op ∙ y) ∙ ap length (sym n);
      }

  goes_line : (done : List (List ℕ)) (s u : Stage) (w : Line) → IsStamp (last_row_stamp s.archive.rows) → At done w → u ≡ on_line s w → Goes done s [] u
  unfolding Goes
  goes_line done s u w stamp a is = subst (Goes done s []) (sym is) (record { at = a; stamp = stamp }, λ p z. (tt, past_moved s (on_line s w) p refl refl refl z))

  goes_opening : (done : List (List ℕ)) (s u : Stage) → Stood done s → u ≡ recovered s → Goes done s (opening s ∷ []) u
  unfolding Goes
  goes_opening done s u a is = subst (Goes done s (opening s ∷ [])) (sym is) (record { at = a.at; stamp = a.stamp }, λ p z. ((holds_opening s p z, tt), past_recovered s p z))

  goes_opens : (t : Bool) (k : Stop) (done : List (List ℕ)) (s u : Stage) (is : List Item) → Stood done s → Opens t k s is u → Goes done s is u
  unfolding Goes
  goes_opens true k done s u is a (i, n) = subst (λ x. Goes done s x u) (sym i) (subst (Goes done s (Item.OpenStopped k.change s.archive.rows ∷ [])) (sym n)
      (record { at = a.at; stamp = a.stamp }, λ p z. ((found s p z, tt), record { gathered = z.gathered; rows = refl; least = z.least; written = z.written; within = z.within; shown = λ y. absurd cc })))
  goes_opens false k done s u is a (i, n) = subst (λ x. Goes done s x u) (sym i) (goes_opening done s u a n)

  -- a session that is closed is opened first
  kept_first : (t : Bool) (s : Stage) (p : Past) (o : List Item) → IsPast settings r s p → ((q : Past) → IsPast settings r (opened t s) q → KeptFrom settings r q o) → KeptFrom settings r p (opening_if_closed t s ++ o)
  kept_first true s p o z h = h p z
  kept_first false s p o z h = (holds_opening s p z, h (past_with_item p (opening s)) (past_recovered s p z))

  goes_first : (t : Bool) (done : List (List ℕ)) (s u : Stage) (is : List Item) → Goes done (opened t s) is u → Goes done s (opening_if_closed t s ++ is) u
  unfolding Goes
  goes_first true done s u is h = h
  goes_first false done s u is h = (h.0, λ p z. let k = h.1 (past_with_item p (opening s)) (past_recovered s p z) in ((holds_opening s p z, k.0), k.1))

  opened_is : (t : Bool) (s : Stage) → s.is_open ≡ t → (opened t s).is_open ≡ true
  opened_is true s e = e
  opened_is false s e = refl

  stood_opened : (t : Bool) (done : List (List ℕ)) (s : Stage) → Stood done s → Stood done (opened t s)
  stood_opened true done s a = a
  stood_opened false done s a = record { at = a.at; stamp = a.stamp }

  -- the records that a step adds
  unfoldable pub adds : ReplayStep → List (List ℕ)
  adds (ReplayStep.Due rs) = rs
  adds (ReplayStep.Idle n) = []
  adds (ReplayStep.Open stop) = []
  adds (ReplayStep.Round f left stop) = left 0

  pub step_law : (x : ReplayStep) (done more : List (List ℕ)) (s u : Stage) (is : List Item) → IsStep x → (done ++ adds x) ++ more ≡ r → Stood done s → Does settings x s is u → Goes (done ++ adds x) s is u
  unfolding adds
  step_law (ReplayStep.Due rs) done more s u is ok whole a (none, next) =
      subst (λ y. Goes (done ++ rs) s y u) (sym none) (goes_line (done ++ rs) s u (waited rs s.line) a.stamp
      (at_waited rs done s.line (follows_front [] (done ++ rs) more (subst (EachFollows []) (sym whole) rises)) (records_back done rs (records_front (done ++ rs) more (subst AreRecords (sym whole) are))) a.at) next)
  step_law (ReplayStep.Idle n) done more s u is ok whole a (none, next) =
      subst (λ y. Goes (done ++ []) s y u) (sym none) (goes_line (done ++ []) s u (idles no_fates n s.line) a.stamp
      (subst (λ y. At y (idles no_fates n s.line)) (sym (append-nil done)) (at_idles n done s.line a.at)) next)
  step_law (ReplayStep.Open None) done more s u is ok whole a (i, next) = subst (λ y. Goes y s is u) (sym (append-nil done)) (subst (λ y. Goes done s y u) (sym i) (goes_opening done s u a next))
  step_law (ReplayStep.Open (Some k)) done more s u is ok whole a h = subst (λ y. Goes y s is u) (sym (append-nil done)) (goes_opens (stops_opening k.change s.archive.size) k done s u is a h)
  step_law (ReplayStep.Round f left stop) done more s u is ok whole a (x, k, i) =
      subst (λ y. Goes (done ++ left 0) s y u) (sym i) (goes_first s.is_open (done ++ left 0) s u (Item.Ran x ∷ [])
      (ran_from f left ok done more whole stop (opened s.is_open s) x u (opened_is s.is_open s refl) (stood_opened s.is_open done s a) k))

  pub records_adds : (x : ReplayStep) (xs : List ReplayStep) → records (x ∷ xs) ≡ adds x ++ records xs
  unfolding adds
  records_adds (ReplayStep.Due rs) xs = refl
  records_adds (ReplayStep.Idle n) xs = refl
  records_adds (ReplayStep.Open stop) xs = refl
  records_adds (ReplayStep.Round f left stop) xs = refl

  pub goes_at : (done : List (List ℕ)) (s u : Stage) (is : List Item) → Goes done s is u → Stood done u
  unfolding Goes
  goes_at done s u is h = h.0

  pub goes_past : (done : List (List ℕ)) (s u : Stage) (is : List Item) → Goes done s is u → (p : Past) → IsPast settings r s p → IsPast settings r u (past_behind p is)
  unfolding Goes
  goes_past done s u is h p z = (h.1 p z).1

  pub start_past : (eeprom : List ℕ) (packet : LoopPacket) → IsPast settings r (start eeprom packet) no_past
  start_past eeprom packet = record { gathered = refl; rows = refl; least = omega arith; written = refl; within = omega arith; shown = λ y. absurd cc }

  goes_join : (done all : List (List ℕ)) (s mid u : Stage) (now rest : List Item) → Goes done s now mid → Goes all mid rest u → Goes all s (now ++ rest) u
  unfolding Goes
  goes_join done all s mid u now rest h k = (
    k.0,
    λ p z.
        let one = h.1 p z in
        let two = k.1 (past_behind p now) one.1 in
        (kept_join settings r p now rest one.0 two.0, subst (IsPast settings r u) (sym (behind_join p now rest)) two.1),
  )

  pub runs_law : (xs : List ReplayStep) (done more : List (List ℕ)) (s u : Stage) (is : List Item) → AreSteps xs → (done ++ records xs) ++ more ≡ r → Stood done s → Runs settings xs s is u → Goes (done ++ records xs) s is u
  runs_law [] done more s u is ok whole a (none, same) =
      subst (λ y. Goes (done ++ []) s y u) (sym none) (goes_line (done ++ []) s u s.line a.stamp (subst (λ y. At y s.line) (sym (append-nil done)) a.at) same)
  runs_law (x ∷ xs) done more s u is ok whole a (mid, now, rest, split, does, again) =
      let e1 : done ++ records (x ∷ xs) ≡ (done ++ adds x) ++ records xs = ap (λ y. done ++ y) (records_adds x xs) ∙ sym (append_assoc done (adds x) (records xs)) in
      let w1 : (done ++ adds x) ++ (records xs ++ more) ≡ r = sym (append_assoc (done ++ adds x) (records xs) more) ∙ ap (λ y. y ++ more) (sym e1) ∙ whole in
      let w2 : ((done ++ adds x) ++ records xs) ++ more ≡ r = ap (λ y. y ++ more) (sym e1) ∙ whole in
      let one = step_law x done (records xs ++ more) s mid now ok.0 w1 a does in
      let two = runs_law xs (done ++ adds x) more mid u rest ok.1 w2 (goes_at (done ++ adds x) s mid now one) again in
      subst (λ y. Goes y s is u) (sym e1) (subst (λ y. Goes ((done ++ adds x) ++ records xs) s y u) (sym split) (goes_join (done ++ adds x) ((done ++ adds x) ++ records xs) s mid u now rest one two))

  pub start_at : (eeprom : List ℕ) (packet : LoopPacket) → Stood [] (start eeprom packet)
  start_at eeprom packet = record {
    at = record {
      calm = record { begun = refl; brief = tt; bytes = omega arith; closed = tt; waits = tt };
      sound = record { valid = record { few = omega arith; tidy = refl; follows = tt; rises = λ i none below. absurd (omega (arith, below)); fits = omega arith }; rises = tt; records = tt };
      recs = refl;
      tidy = refl;
      begun = tt;
    };
    stamp = tt;
  }

  -- a whole run, or the beginning of one, and what is written behind it
  pub kept_law : (all : List (List ℕ)) (eeprom : List ℕ) (packet : LoopPacket) (u : Stage) (is o : List Item) → Goes all (start eeprom packet) is u → ((p : Past) → IsPast settings r u p → KeptFrom settings r p o) → Kept settings r (is ++ o)
  unfolding Goes
  kept_law all eeprom packet u is o h k = let z = h.1 no_past (start_past eeprom packet) in kept_join settings r no_past is o z.0 (k (past_behind no_past is) z.1)

  pub kept_closing : (t : Bool) (u : Stage) → u.is_open ≡ t → (p : Past) → IsPast settings r u p → KeptFrom settings r p (opening_if_closed t u ++ Item.Ended u.archive.rows ∷ [])
  kept_closing true u op p z = (holds_end u p z op, tt)
  kept_closing false u op p z = (holds_opening u p z, (holds_end (recovered u) (past_with_item p (opening u)) (past_recovered u p z) refl, tt))

  pub kept_opened : (t : Bool) (u : Stage) (p : Past) → IsPast settings r u p → KeptFrom settings r p (opening_if_closed t u)
  kept_opened true u p z = tt
  kept_opened false u p z = (holds_opening u p z, tt)

  pub kept_broken : (f : FatesByNumber) (stop : Option Stop) (i : Item) (u : Stage) → IsUnseenRound settings f stop (opened u.is_open u) i → (p : Past) → IsPast settings r u p → KeptFrom settings r p (opening_if_closed u.is_open u ++ i ∷ [])
  kept_broken f stop i u b p z = subst (λ (y : Item). KeptFrom settings r p (opening_if_closed u.is_open u ++ y ∷ [])) (sym b.is) (kept_first u.is_open u p (Item.Unsaid ((opened u.is_open u).rounds + 1) b.which ∷ []) z (λ q y. (tt, tt)))

pub steps_first : (xs ys : List ReplayStep) → AreSteps (xs ++ ys) → AreSteps xs
steps_first [] ys h = tt
steps_first (x ∷ xs) ys h = (h.0, steps_first xs ys h.1)

pub records_join : (xs ys : List ReplayStep) → records (xs ++ ys) ≡ records xs ++ records ys
records_join [] ys = refl
records_join (ReplayStep.Due rs ∷ xs) ys = ap (λ y. rs ++ y) (records_join xs ys) ∙ sym (append_assoc rs (records xs) (records ys))
records_join (ReplayStep.Idle n ∷ xs) ys = records_join xs ys
records_join (ReplayStep.Open stop ∷ xs) ys = records_join xs ys
records_join (ReplayStep.Round f left stop ∷ xs) ys = ap (λ y. left 0 ++ y) (records_join xs ys) ∙ sym (append_assoc (left 0) (records xs) (records ys))

pub schedules_law : (settings : StationSettings) (eeprom : List ℕ) (packet : LoopPacket) (steps : List ReplayStep) → IsSchedule steps → (o : List Item) → IsReplay settings (start eeprom packet) steps o → Kept settings (records steps) o
schedules_law settings eeprom packet steps ok o (inl run) =
    let r = records steps in
    let u = run.last in
    let h = runs_law settings r ok.rises ok.are_records steps [] [] (start eeprom packet) u run.given ok.each (append-nil r) (start_at settings r ok.rises ok.are_records eeprom packet) run.runs in
    subst (Kept settings r) (sym run.items_are) (kept_law settings r ok.rises ok.are_records r eeprom packet u run.given (closing_items u) h (kept_closing settings r ok.rises ok.are_records u.is_open u refl))
schedules_law settings eeprom packet steps ok o (inr run) =
    let r = records steps in
    let xs = run.before in
    let rest = ReplayStep.Round run.fates run.left run.stop ∷ run.behind in
    let u = run.last in
    let whole : records xs ++ records rest ≡ r = sym (records_join xs rest) ∙ ap records (sym run.steps_are) in
    let some : AreSteps xs = steps_first xs rest (subst AreSteps run.steps_are ok.each) in
    let h = runs_law settings r ok.rises ok.are_records xs [] (records rest) (start eeprom packet) u run.given some whole (start_at settings r ok.rises ok.are_records eeprom packet) run.runs in
    subst (Kept settings r) (sym run.items_are) (kept_law settings r ok.rises ok.are_records (records xs) eeprom packet u run.given (opening_if_closed u.is_open u ++ run.unsaid ∷ []) h (kept_broken settings r ok.rises ok.are_records run.fates run.stop run.unsaid u run.broken))

-- the rows after some steps are gathered
pub runs_so : (settings : StationSettings) (eeprom : List ℕ) (packet : LoopPacket) (steps more : List ReplayStep) → IsSchedule (steps ++ more) → (is : List Item) (u : Stage) → Runs settings steps (start eeprom packet) is u → (ps : List DumpCount) × DumpsGather settings (records (steps ++ more)) ps [] u.archive.rows
runs_so settings eeprom packet steps more ok is u runs =
    let r = records (steps ++ more) in
    let whole : ([] ++ records steps) ++ records more ≡ r = sym (records_join steps more) in
    let h = runs_law settings (records (steps ++ more)) ok.rises ok.are_records steps [] (records more) (start eeprom packet) u is (steps_first steps more ok.each) whole (start_at settings (records (steps ++ more)) ok.rises ok.are_records eeprom packet) runs in
    let q = goes_past settings (records (steps ++ more)) ok.rises ok.are_records (records steps) (start eeprom packet) u is h no_past (start_past settings (records (steps ++ more)) ok.rises ok.are_records eeprom packet) in
    ((past_behind no_past is).dumps, q.gathered)

-- what is so of the beginning of a run
pub begun_law : (settings : StationSettings) (eeprom : List ℕ) (packet : LoopPacket) (steps : List ReplayStep) → IsSchedule steps → (o : List Item) → RunIsBegun settings (start eeprom packet) steps o → Kept settings (records steps) o
begun_law settings eeprom packet steps ok o run =
    let r = records steps in
    let xs = run.before in
    let u = run.last in
    let whole : records xs ++ records run.behind ≡ r = sym (records_join xs run.behind) ∙ ap records (sym run.steps_are) in
    let some : AreSteps xs = steps_first xs run.behind (subst AreSteps run.steps_are ok.each) in
    let h = runs_law settings r ok.rises ok.are_records xs [] (records run.behind) (start eeprom packet) u run.given some whole (start_at settings r ok.rises ok.are_records eeprom packet) run.runs in
    elim run.items_are [
      | inl z ↦ subst (Kept settings r) (append-nil run.given ∙ sym z) (kept_law settings r ok.rises ok.are_records (records xs) eeprom packet u run.given [] h (λ p so. tt))
      | inr z ↦ subst (Kept settings r) (sym z.1) (kept_law settings r ok.rises ok.are_records (records xs) eeprom packet u run.given (opening_if_closed u.is_open u) h (kept_opened settings r ok.rises ok.are_records u.is_open u))
    ]
