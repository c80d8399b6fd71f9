-- What a round gives, kept or not, and that it does not flood.
use Rattle.std.proofs.Common.{◌≡◌, ◌≢◌, ℕ, ◌+◌, ◌<◌, ◌≤◌, inl, inr, List, [], ◌∷◌, ◌++◌, length, Some, None, refl, sym, ◌∙◌, ap, subst, arith, append_assoc, append-nil, length-append}
use Rattle.std.proofs.lemmas.Option.{same_Some}
use Rattle.station_base.specs.declared.row.Row.{Row}
use Rattle.settings_file.specs.StationSettings.{StationSettings}
use Rattle.vantage_frames.specs.StampFrame.{stamp_frame_of}
use Rattle.causes.specs.declared.stored.Stored.{Stored}
use Rattle.causes.specs.declared.stored.Stored.TheVariants as kept
use Rattle.console_model.specs.Valid.{EachFollows}
use Rattle.dmpaft_driver.specs.Attempt.{Attempt, End}
use Rattle.dmpaft_pump.specs.Batch.{batches, records_in, answered_batches}
use Rattle.dmpaft_driver.specs.Gathered as outcome
use Rattle.dmpaft_pump.specs.Keeper.{Handed, one_batch, kept_all, join, count}
use Rattle.dmpaft_pump.specs.declared.outcome.DumpEnd.{DumpEnd}
use Rattle.dmpaft_pump.specs.declared.outcome.DumpEnd.TheVariants as dump_end
use Rattle.dmpaft_pump.proofs.HandedBatches.{join_none, one_size, count_join}
use Rattle.dmpaft_driver.proofs.AttemptBounds.{frame_long}
use Rattle.packed_rows.specs.Rising.{last_row_stamp}
use Rattle.station_session.specs.declared.round_end.RoundEnd.{RoundEnd}
use Rattle.station_session.specs.declared.round_end.RoundEnd.TheVariants as round_end
use Rattle.station_session.specs.Attempts.{MadeAttempt, AreAttempts, IsMadeAfter, all_said, all_batches, batches_in, end_after, stamp_after}
use Rattle.station_session.specs.Batches.{Fit, all_records, kept_count, kept_records}
use Rattle.station_session.specs.Records.{stored_rows, AllRead}
use Rattle.station_session.proofs.Parts.{fit_parts, count_parts}
use Rattle.station_session.proofs.Ends.{kept_append, went_on}
use Rattle.schedule_file.specs.Fates.{FatesByNumber}
use Rattle.station_sim.specs.Falling.{FallDue}
use Rattle.station_sim.specs.Joining.{talks_part}
use Rattle.station_sim.specs.Line.{Line}
use Rattle.station_sim.specs.Talk.{console_talk, ConsoleTalk}
use Rattle.station_sim.specs.Calm.{IsCalm}
use Rattle.station_sim.specs.Sound.{AreRecords, IsSound, AreSound}
use Rattle.line_laws.specs.Records.{Now}
use Rattle.replay_laws.specs.Keeping.{Archive}
use Rattle.replay_laws.specs.DumpCounts.{DumpCount, DumpsGather, counts_of_attempt}
use Rattle.replay_laws.specs.Room.{AreFew}
use Rattle.replay_laws.specs.Round.{LineAttempt}
use Rattle.replay_laws.proofs.RoundAttempts.{IsMadeOver}
use Rattle.line_laws.proofs.Attempts.{attempt_dry}
use Rattle.replay_laws.proofs.Bridge.{attempted_by, went, said_one}
use Rattle.replay_laws.proofs.CountedRows.{few_of, stamp_of}
use Rattle.line_laws.proofs.Pages.{goes_unseen}
use Rattle.replay_laws.proofs.GivenBatches.{keeps_part}
use Rattle.replay_laws.proofs.Room.{AllSome, batches_some}
use Rattle.replay_laws.proofs.Rounds.{IsPlain, all_front, kept_front, plain_ended, one_law, gathered_join, batches_of, rows_length}

-- the records of one batch, however it was answered
one_all : (a : Stored) (b : List (List ℕ)) → all_records (one_batch a b) ≡ b ++ []
one_all kept.Done b = refl
one_all kept.Full b = sym (append-nil b)
one_all kept.Stale b = sym (append-nil b)
one_all kept.DiskFault b = sym (append-nil b)

-- and of some of which the last was answered so
pub answered_all : (a : Stored) (bs : List (List (List ℕ))) → all_records (answered_batches a bs) ≡ records_in bs
answered_all a [] = refl
answered_all a (b ∷ []) = one_all a b
answered_all a (b ∷ c ∷ bs) = ap (λ x. b ++ x) (answered_all a (c ∷ bs))

-- one that was kept has a record
one_kept : (a : Stored) (b : List (List ℕ)) → 0 < length b → kept_count (one_batch a b) ≤ length (kept_records (one_batch a b))
one_kept kept.Done b h = omega (arith, h, length-append b [])
one_kept kept.Full b h = omega arith
one_kept kept.Stale b h = omega arith
one_kept kept.DiskFault b h = omega arith

-- batches of which none is empty are no more than their records, however the last was answered
answered_count : (a : Stored) (bs : List (List (List ℕ))) → AllSome bs → count (answered_batches a bs) ≤ length (records_in bs)
answered_count a [] h = omega arith
answered_count a (b ∷ []) h = omega (arith, h.0, one_size a b, length-append b [])
answered_count a (b ∷ c ∷ bs) h = omega (arith, h.0, length-append b (records_in (c ∷ bs)), answered_count a (c ∷ bs) h.1)

-- and of those that were kept the same is so
answered_kept : (a : Stored) (bs : List (List (List ℕ))) → AllSome bs → kept_count (answered_batches a bs) ≤ length (kept_records (answered_batches a bs))
answered_kept a [] h = omega arith
answered_kept a (b ∷ []) h = one_kept a b h.0
answered_kept a (b ∷ c ∷ bs) h = omega (arith, h.0, length-append b (kept_records (answered_batches a (c ∷ bs))), answered_kept a (c ∷ bs) h.1)

-- the records of batches behind others that were kept
all_append : (xs : List (List (List ℕ))) (ys : Handed) → all_records (join (kept_all xs) ys) ≡ records_in xs ++ all_records ys
all_append [] ys = refl
all_append (x ∷ xs) ys = ap (λ z. x ++ z) (all_append xs ys) ∙ sym (append_assoc x (records_in xs) (all_records ys))

-- batches of which none is empty are no more than their records
some_many : (bs : List (List (List ℕ))) → AllSome bs → length bs ≤ length (records_in bs)
some_many [] h = omega arith
some_many (b ∷ bs) h = omega (arith, h.0, length-append b (records_in bs), some_many bs h.1)

-- a round that neither the link nor want of memory ended had a last attempt that they did not end
plain_last : (e : DumpEnd) (end : RoundEnd) → end_after e ≡ Some end → end ≢ round_end.LinkFault → end ≢ round_end.OutOfMemory → IsPlain e
plain_last (dump_end.Failed trouble) end h link memory = tt
plain_last dump_end.Whole end h link memory = tt
plain_last dump_end.Full end h link memory = tt
plain_last dump_end.Stale end h link memory = tt
plain_last dump_end.DiskFault end h link memory = tt
plain_last dump_end.Flood end h link memory = tt
plain_last dump_end.LinkFault end h link memory = absurd (link (sym (same_Some round_end.LinkFault end h)))
plain_last dump_end.OutOfMemory end h link memory = absurd (memory (sym (same_Some round_end.OutOfMemory end h)))

-- one that flooded had a last attempt that did
flood_last : (e : DumpEnd) → end_after e ≡ Some round_end.Flood → e ≡ dump_end.Flood
flood_last (dump_end.Failed trouble) h = absurd cc
flood_last dump_end.Whole h = absurd (let y = same_Some round_end.Done round_end.Flood h in cc)
flood_last dump_end.Full h = absurd (let y = same_Some round_end.ArchiveFull round_end.Flood h in cc)
flood_last dump_end.Stale h = absurd (let y = same_Some round_end.Stale round_end.Flood h in cc)
flood_last dump_end.DiskFault h = absurd (let y = same_Some round_end.DiskFault round_end.Flood h in cc)
flood_last dump_end.Flood h = refl
flood_last dump_end.LinkFault h = absurd (let y = same_Some round_end.LinkFault round_end.Flood h in cc)
flood_last dump_end.OutOfMemory h = absurd (let y = same_Some round_end.OutOfMemory round_end.Flood h in cc)

none_floods : (end : RoundEnd) → end ≡ round_end.GaveUp → end ≢ round_end.Flood
none_floods end gave floods = let y : round_end.GaveUp ≡ round_end.Flood = sym gave ∙ floods in cc

module _ (settings : StationSettings) (f : FatesByNumber) (ok : AreSound f) (left : ℕ → List (List ℕ)) (falls : FallDue f left) (all more : List (List ℕ)) (up : EachFollows [] all) (r : List (List ℕ)) (whole : all ++ more ≡ r) (rises : EachFollows [] r) (are : AreRecords r) where
  pub some_of : (rows after : List Row) (w u : Line) (t : LineAttempt) → IsMadeOver f rows w t after u → AllSome t.batches
  some_of rows after w u t k = subst AllSome (sym k.over.batches) (batches_some (last_row_stamp rows) t.made.place t.made.taken)

  pub read_of_batches : (rows after : List Row) (w u : Line) (t : LineAttempt) → IsMadeOver f rows w t after u → AllRead (records_in t.batches)
  read_of_batches rows after w u t k = batches_of settings f ok left falls all up r more whole rows after w u t k

  -- all that an attempt gives has room, kept or not
  pub all_fit : (d : List DumpCount) (a b : List Row) (w u : Line) (t : LineAttempt) → IsCalm w → IsSound w → Now left all w → IsMadeOver f a w t b u → IsPlain t.made.end → u.unseen ≡ None → DumpsGather settings r d [] a → length a + length (records_in t.batches) ≤ length r
  all_fit d a b w u t calm sound now k plain un g =
      let bs = records_in t.batches in
      let l : length (a ++ stored_rows settings (records_in t.batches)) ≡ length a + length (records_in t.batches)
      = rows_length settings f ok left falls all up r more whole a (a ++ stored_rows settings (records_in t.batches)) (records_in t.batches) (read_of_batches a b w u t k) refl in
      let t2 : LineAttempt = record { made = t.made; batches = t.batches; dumps = t.dumps; acknowledged = t.acknowledged; harmed = t.harmed; gained = length (records_in t.batches) } in
      let k2 : IsMadeOver f a w t2 (a ++ stored_rows settings (records_in t.batches)) u = record {
        attempt = k.attempt;
        over = record { talks = k.over.talks; batches = k.over.batches; dumps = k.over.dumps; acknowledged = k.over.acknowledged; harmed = k.over.harmed; gained = l };
      } in
      let one = one_law settings f ok left falls all up r more whole a (a ++ stored_rows settings (records_in t.batches)) w u t2 calm sound now (stamp_of settings r rises are d a g) k2 plain un (records_in t.batches) refl (all_front t.batches) (kept_front t.made.end t.batches) in
      let n = few_of settings r rises are (d ++ counts_of_attempt t2) (a ++ stored_rows settings (records_in t.batches))
      (gathered_join settings r d (counts_of_attempt t2) [] a (a ++ stored_rows settings (records_in t.batches)) g one.gathers) in
      omega (arith, l, n)

  -- what one attempt gives, kept or not, is counted
  one_few : (d : List DumpCount) (a : Archive) (w v : Line) (t : MadeAttempt) → IsMadeAfter (last_row_stamp a.rows) t → IsPlain t.end → ConsoleTalk f t.said w v → IsCalm w → IsSound w → Now left all w → v.unseen ≡ None → DumpsGather settings r d [] a.rows
      → AreFew (length r) a.rows (batches_in (last_row_stamp a.rows) t)
  one_few d a w v t tried plain talks calm sound now un g =
      let bs = batches (last_row_stamp a.rows) t.place t.taken in
      let x = attempted_by f a.rows a.rows w v t tried talks (omega arith) in
      let n = all_fit d a.rows a.rows w v x.0 calm sound now x.1 (subst IsPlain (sym (ap (λ y. y.end) x.3)) plain) un g in
      let all_are = answered_all (outcome.keeper_answer t.end) bs in
      record {
        few = omega (arith, n, ap length all_are, ap (λ y. length (records_in y)) x.2);
        kept = answered_kept (outcome.keeper_answer t.end) bs (batches_some (last_row_stamp a.rows) t.place t.taken);
        each = omega (arith, answered_count (outcome.keeper_answer t.end) bs (batches_some (last_row_stamp a.rows) t.place t.taken), ap length all_are);
      }

  -- the attempts of a round: they do not flood, and what they give is counted
  pub round_few : (n m : ℕ) (d : List DumpCount) (a : Archive) (w v : Line) (ts : List MadeAttempt) (end : RoundEnd) → AreAttempts n (last_row_stamp a.rows) ts end → Fit settings.most (length a.rows) (all_batches (last_row_stamp a.rows) ts) → ConsoleTalk f (all_said ts) w v
      → end ≢ round_end.LinkFault → end ≢ round_end.OutOfMemory → end ≢ round_end.Stale → IsCalm w → IsSound w → Now left all w → v.unseen ≡ None → DumpsGather settings r d [] a.rows
      → (end ≢ round_end.Flood) × AreFew (length r) a.rows (all_batches (last_row_stamp a.rows) ts)
  round_few n m d a w v [] end (inl (none, before)) fit talks link memory fresh calm sound now un g = absurd (stale_or end before fresh memory)
    where
      stale_or : (end : RoundEnd) → Rattle.station_session.specs.Attempts.EndsBefore end → end ≢ round_end.Stale → end ≢ round_end.OutOfMemory → ⊥
      stale_or round_end.Stale b s o = s refl
      stale_or round_end.OutOfMemory b s o = o refl
      stale_or round_end.Done b s o = b
      stale_or round_end.GaveUp b s o = b
      stale_or round_end.LinkFault b s o = b
      stale_or round_end.DiskFault b s o = b
      stale_or round_end.Flood b s o = b
      stale_or round_end.ArchiveFull b s o = b
  round_few n m d a w v [] end (inr (three, gave)) fit talks link memory fresh calm sound now un g =
      (none_floods end gave, record { few = omega (arith, few_of settings r rises are d a.rows g); each = omega arith; kept = omega arith })
  round_few n m d a w v (t ∷ ts) end (less, tried, inl (none, again)) fit talks link memory fresh calm sound now un g =
      let bs = batches (last_row_stamp a.rows) t.place t.taken in
      let rest = all_batches (stamp_after (last_row_stamp a.rows) t) ts in
      let parted : all_batches (last_row_stamp a.rows) (t ∷ ts) ≡ join (kept_all bs) rest = ap (λ (h : Handed). join h rest) (went_on (last_row_stamp a.rows) t none) in
      let parts = fit_parts settings.most (length a.rows) bs rest (subst (λ (h : Handed). Fit settings.most (length a.rows) h) parted fit) in
      let p = talks_part f t.said (all_said ts) w v talks in
      let o = went settings f None m a w p.0 t tried none parts.0 tt p.1 in
      let plain : IsPlain o.x.made.end = subst IsPlain (sym o.failed.1) tt in
      let u = goes_unseen f (all_said ts) p.0 v p.2 un in
      let k = keeps_part settings None m a o.x.batches (Rattle.replay_laws.proofs.RoundAttempts.Keeping.Goes o.count o.b) o.keeps in
      let one = one_law settings f ok left falls all up r more whole a.rows o.b.rows w p.0 o.x calm sound now (stamp_of settings r rises are d a.rows g) o.is_attempted plain u (records_in o.x.batches) k.0 (all_front o.x.batches) (kept_front o.x.made.end o.x.batches) in
      let q = round_few (n + 1) o.count (d ++ counts_of_attempt o.x) o.b p.0 v ts end
      (subst (λ z. AreAttempts (n + 1) z ts end) o.stamp again)
      (subst (λ z. Fit settings.most (length o.b.rows) (all_batches z ts)) o.stamp (subst (λ (z : ℕ). Fit settings.most z rest) o.long parts.1))
      p.2 link memory fresh one.calm one.sound one.now un (gathered_join settings r d (counts_of_attempt o.x) [] a.rows o.b.rows g one.gathers) in
      let later : AreFew (length r) o.b.rows rest = subst (λ z. AreFew (length r) o.b.rows (all_batches z ts)) (sym o.stamp) q.1 in
      let many = some_many bs (batches_some (last_row_stamp a.rows) t.place t.taken) in (
        q.0,
        subst (AreFew (length r) a.rows) (sym parted) (record {
          few = omega (arith, later.few, o.long, ap length (all_append bs rest), length-append (records_in bs) (all_records rest));
          each = omega (arith, later.each, many, ap length (all_append bs rest), length-append (records_in bs) (all_records rest), count_join bs rest);
          kept = omega (arith, later.kept, many, ap length (kept_append bs rest), length-append (records_in bs) (kept_records rest), count_parts bs rest);
        }),
      )
  round_few n m d a w v (t ∷ ts) end (less, tried, inr (ends, none)) fit talks link memory fresh calm sound now un g =
      let plain = plain_last t.end end ends link memory in
      let said = said_one f t w v (ap (λ z. console_talk f (all_said (t ∷ z)) w) (sym none) ∙ talks) in
      let one : batches_in (last_row_stamp a.rows) t ≡ all_batches (last_row_stamp a.rows) (t ∷ ts) = sym (ap (λ z. all_batches (last_row_stamp a.rows) (t ∷ z)) none ∙ join_none (batches_in (last_row_stamp a.rows) t)) in (
        (λ floods.
            let is = flood_last t.end (ends ∙ ap Some floods) in
            let at : Attempt (stamp_frame_of (last_row_stamp a.rows)) t.said t.place t.taken End.Flooded
            = plain_ended (λ said taken end. Attempt (stamp_frame_of (last_row_stamp a.rows)) said t.place taken end) dump_end.Flood t.said t.taken tt (subst (λ z. Rattle.dmpaft_driver.specs.Outcome.Ended (λ said taken end. Attempt (stamp_frame_of (last_row_stamp a.rows)) said t.place taken end) z t.said t.taken) is tried.ends) in
            attempt_dry f ok (stamp_frame_of (last_row_stamp a.rows)) (frame_long (last_row_stamp a.rows)) t.said t.place t.taken w v sound calm at said un),
        subst (AreFew (length r) a.rows) one (one_few d a w v t tried plain said calm sound now un g),
      )
