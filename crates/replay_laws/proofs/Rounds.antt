-- One attempt of a round, and a whole round.
use Rattle.std.proofs.Common.{◌≡◌, ◌≢◌, ℕ, zero, suc, ◌+◌, ◌-◌, ◌/◌, ◌<◌, ◌≤◌, ◌⊎◌, inl, inr, List, [], ◌∷◌, ◌++◌, length, map, take, Option, Some, None, refl, sym, ◌∙◌, ap, subst, arith, append_assoc, append-nil, length-append}
use Rattle.std.specs.Prelude.{min}
use Rattle.std.proofs.Math.Seq.{take-append_seam, take-append-add}
use Rattle.std.specs.List.{AllByRecursion}
use Rattle.causes.specs.Lists.{IsFrontOf}
use Rattle.station_base.specs.declared.row.Row.{Row}
use Rattle.settings_file.specs.StationSettings.{StationSettings}
use Rattle.vantage_frames.specs.StampFrame.{stamp_frame_of}
use Rattle.serial_link.specs.declared.talk.TalkItem.{TalkItem}
use Rattle.console_model.specs.Console.{Begun}
use Rattle.console_model.specs.Valid.{EachFollows}
use Rattle.dmpaft_driver.specs.Attempt.{Attempt, End}
use Rattle.dmpaft_pump.specs.Batch.{batches, records_in, EndsGiving}
use Rattle.dmpaft_driver.specs.Gathered.{RefusesLast}
use Rattle.dmpaft_driver.proofs.AcknowledgedPages.{attempt_some}
use Rattle.dmpaft_driver.specs.Outcome.{Ended}
use Rattle.dmpaft_pump.specs.declared.outcome.DumpEnd.{DumpEnd}
use Rattle.dmpaft_pump.specs.declared.outcome.DumpEnd.TheVariants as dump_end
use Rattle.dmpaft_pump.specs.declared.outcome.Trouble.{Trouble}
use Rattle.dmpaft_driver.proofs.AttemptBounds.{frame_long}
use Rattle.packed_rows.specs.Rising.{last_row_stamp}
use Rattle.station_session.specs.Attempts.{most_attempts}
use Rattle.station_session.specs.Batches.{kept_records}
use Rattle.station_session.proofs.KeptBatches.{but_last, kept_batches, kept_by_end}
use Rattle.station_session.specs.Records.{stored_rows, AllRead}
use Rattle.station_session.proofs.Stamps.{same_count, stored_append}
use Rattle.station_session.proofs.Ends.{records_append}
use Rattle.station_session.proofs.KeptRecords.{front_but_last}
use Rattle.schedule_file.specs.Fates.{FatesByNumber}
use Rattle.station_sim.specs.Falling.{FallDue}
use Rattle.station_sim.specs.Line.{Line}
use Rattle.station_sim.specs.Calm.{IsCalm}
use Rattle.station_sim.specs.Sound.{IsSound, AreSound}
use Rattle.station_sim.proofs.SoundLines.{sound_talk}
use Rattle.line_laws.specs.Gathers.{IsStamp, newer_held, begun_after, AttemptGives, CoversPages}
use Rattle.line_laws.specs.PagesAcknowledged.{pages_acknowledged, records_on_pages}
use Rattle.line_laws.specs.Records.{BegunIn, Now}
use Rattle.schedule_file.specs.declared.schedule.step.Stop.{Stop}
use Rattle.replay_laws.specs.Keeping.{Archive, batches_before}
use Rattle.replay_laws.proofs.RoundAttempts.{IsMadeOver, Keeping, Tries}
use Rattle.replay_laws.specs.Round.{Ending, LineAttempt, EndsStopped, handed_in}
use Rattle.replay_laws.specs.DumpCounts.{DumpCount, DumpsGather, counts_of_attempt, dump_count, offered, dump_counts}
use Rattle.replay_laws.specs.Kept.{AreFirst, records_kept, IsComplete, batches_given}
use Rattle.line_laws.proofs.Pages.{goes_unseen}
use Rattle.line_laws.proofs.Batches.{attempt_gives}
use Rattle.line_laws.proofs.Headers.{frame_good}
use Rattle.line_laws.proofs.WholeAttempts.{clean_law}
use Rattle.line_laws.proofs.CalmAttempts.{now_attempt}
use Rattle.line_laws.proofs.CoveredPages.{kept_covers, refused_covers}
use Rattle.replay_laws.proofs.GivenBatches.{and_rows, and_more, Parted, keeps_part}
use Rattle.replay_laws.proofs.LastBatch.{some_last, but_last_batches}
use Rattle.replay_laws.proofs.Stamped.{read_front, batches_read, rows_stamp}

pub cancel : (xs ys zs : List Begun) → xs ++ ys ≡ xs ++ zs → ys ≡ zs
cancel [] ys zs e = e
cancel (x ∷ xs) ys zs e = cancel xs ys zs (let q : xs ++ ys ≡ xs ++ zs = cc in q)

begun_last : (r : List (List ℕ)) (bs : List Begun) (b : Begun) → BegunIn r (bs ++ b ∷ []) → IsFrontOf b.history r
begun_last r [] b h = h.0
begun_last r (x ∷ bs) b h = begun_last r bs b h.1

none_first : (xs ys : List (List ℕ)) → xs ++ ys ≡ [] → xs ≡ []
none_first [] ys e = refl
none_first (x ∷ xs) ys e = absurd cc

pub gathered_join : (settings : StationSettings) (r : List (List ℕ)) (ps qs : List DumpCount) (a b c : List Row) → DumpsGather settings r ps a b → DumpsGather settings r qs b c → DumpsGather settings r (ps ++ qs) a c
gathered_join settings r [] qs a b c h k = subst (λ x. DumpsGather settings r qs x c) h k
gathered_join settings r (p ∷ ps) qs a b c h k = (h.0, h.1, gathered_join settings r ps qs (a ++ stored_rows settings (take p.gained (offered r a p.due))) b c h.2 k)

-- the link and its memory did not fail
abbrev pub IsPlain : DumpEnd → Type 0
IsPlain dump_end.Whole = Unit {0}
IsPlain (dump_end.Failed trouble) = Unit {0}
IsPlain dump_end.Full = Unit {0}
IsPlain dump_end.Stale = Unit {0}
IsPlain dump_end.DiskFault = Unit {0}
IsPlain dump_end.Flood = Unit {0}
IsPlain dump_end.LinkFault = ⊥
IsPlain dump_end.OutOfMemory = ⊥

-- the end of the grammar then
abbrev pub end_of : DumpEnd → End
end_of dump_end.Whole = End.Whole
end_of (dump_end.Failed trouble) = End.Failed trouble
end_of dump_end.Full = End.Refused
end_of dump_end.Stale = End.Refused
end_of dump_end.DiskFault = End.Refused
end_of dump_end.Flood = End.Flooded
end_of dump_end.LinkFault = End.Flooded
end_of dump_end.OutOfMemory = End.Flooded

pub plain_ended : (G : List TalkItem → List (List ℕ) → End → Type 0) (e : DumpEnd) (t : List TalkItem) (taken : List (List ℕ)) → IsPlain e → Ended G e t taken → G t taken (end_of e)
plain_ended G dump_end.Whole t taken p h = h
plain_ended G (dump_end.Failed trouble) t taken p h = h
plain_ended G dump_end.Full t taken p h = h
plain_ended G dump_end.Stale t taken p h = h
plain_ended G dump_end.DiskFault t taken p h = h
plain_ended G dump_end.Flood t taken p h = h
plain_ended G dump_end.LinkFault t taken p h = absurd p
plain_ended G dump_end.OutOfMemory t taken p h = absurd p

pub front_same : (xs : List Row) → IsFrontOf xs xs
front_same xs = ([], append-nil xs)

pub front_join : (xs ys zs : List Row) → IsFrontOf xs ys → IsFrontOf ys zs → IsFrontOf xs zs
front_join xs ys zs p q = (p.0 ++ q.0, sym (append_assoc xs p.0 q.0) ∙ ap (λ x. x ++ q.0) p.1 ∙ q.1)

pub all_front : (bs : List (List (List ℕ))) → IsFrontOf (records_in bs) (records_in bs)
all_front bs = ([], append-nil (records_in bs))

-- the batches that were kept are the first of all
pub kept_front : (e : DumpEnd) (bs : List (List (List ℕ))) → IsFrontOf (records_in (kept_batches e bs)) (records_in bs)
kept_front dump_end.Whole bs = all_front bs
kept_front (dump_end.Failed trouble) bs = all_front bs
kept_front dump_end.Full bs = front_but_last bs
kept_front dump_end.Stale bs = front_but_last bs
kept_front dump_end.DiskFault bs = front_but_last bs
kept_front dump_end.Flood bs = all_front bs
kept_front dump_end.LinkFault bs = all_front bs
kept_front dump_end.OutOfMemory bs = all_front bs

-- these are they, by how the attempt ended
kept_as : (t : LineAttempt) (e : DumpEnd) (xs : List (List ℕ)) → t.made.end ≡ e → IsFrontOf (records_in (kept_batches e t.batches)) xs → IsFrontOf (records_in (kept_batches t.made.end t.batches)) xs
kept_as t e xs is front = subst (λ x. IsFrontOf (records_in (kept_batches x t.batches)) xs) (sym is) front

module _ (settings : StationSettings) (f : FatesByNumber) (ok : AreSound f) (left : ℕ → List (List ℕ)) (falls : FallDue f left) (all : List (List ℕ)) (rises : EachFollows [] all) (r more : List (List ℕ)) (whole_is : all ++ more ≡ r) where
  -- what is so of one attempt
  pub record One (rows after : List Row) (t : LineAttempt) (u : Line) : Type 0 where
    pub calm : IsCalm u
    pub sound : IsSound u
    pub now : Now left all u
    pub stamp : IsStamp (last_row_stamp after)
    pub gathers : DumpsGather settings r (counts_of_attempt t) rows after
    pub first : AreFirst r t.dumps
    pub whole : t.made.end ≡ dump_end.Whole → after ≡ and_rows settings rows t.batches → (b : Begun) × (t.dumps ≡ b ∷ []) × (t.gained ≡ length (offered r rows (length b.history)))
    pub harmed : (trouble : Trouble) → t.made.end ≡ dump_end.Failed trouble → 0 < t.harmed

  attempt_of : (rows after : List Row) (w u : Line) (t : LineAttempt) → IsMadeOver f rows w t after u → IsPlain t.made.end → Attempt (stamp_frame_of (last_row_stamp rows)) t.made.said t.made.place t.made.taken (end_of t.made.end)
  attempt_of rows after w u t k plain = plain_ended (λ said taken end. Attempt (stamp_frame_of (last_row_stamp rows)) said t.made.place taken end) t.made.end t.made.said t.made.taken plain k.attempt.ends

  pub batches_of : (rows after : List Row) (w u : Line) (t : LineAttempt) → IsMadeOver f rows w t after u → AllRead (records_in t.batches)
  batches_of rows after w u t k = subst (λ x. AllRead (records_in x)) (sym k.over.batches) (batches_read (last_row_stamp rows) t.made.place t.made.taken)

  pub rows_length : (rows after : List Row) (xs : List (List ℕ)) → AllRead xs → after ≡ rows ++ stored_rows settings xs → length after ≡ length rows + length xs
  rows_length rows after xs read is = ap length is ∙ length-append rows (stored_rows settings xs) ∙ ap (λ x. length rows + x) (same_count settings xs read)

  -- a dump began
  with_dump : (rows after : List Row) (w u : Line) (t : LineAttempt) (h : List (List ℕ)) → IsMadeOver f rows w t after u → (xs : List (List ℕ)) → AllRead xs → after ≡ rows ++ stored_rows settings xs → IsFrontOf xs (records_in t.batches) →
      min (records_on_pages t.acknowledged (begun_after (last_row_stamp rows) h).plan) (length (newer_held (last_row_stamp rows) h)) ≤ length xs → BegunIn all u.dumps →
      u.dumps ≡ w.dumps ++ begun_after (last_row_stamp rows) h ∷ [] →
      IsFrontOf (records_in (batches (last_row_stamp rows) t.made.place t.made.taken)) (newer_held (last_row_stamp rows) h) →
      (end_of t.made.end ≡ End.Whole → records_in (batches (last_row_stamp rows) t.made.place t.made.taken) ≡ newer_held (last_row_stamp rows) h) →
      DumpsGather settings r (counts_of_attempt t) rows after × AreFirst r t.dumps
      × (t.made.end ≡ dump_end.Whole → after ≡ and_rows settings rows t.batches → (b : Begun) × (t.dumps ≡ b ∷ []) × (t.gained ≡ length (offered r rows (length b.history))))
  with_dump rows after w u t h k xs read is pre enough begun d front wholly =
      let a = last_row_stamp rows in
      let b : Begun = begun_after a h in
      let ds : t.dumps ≡ b ∷ [] = cancel w.dumps t.dumps (b ∷ []) (sym k.over.dumps ∙ d) in
      let hp = begun_last all w.dumps b (subst (BegunIn all) d begun) in
      let hr : h ++ (hp.0 ++ more) ≡ r = sym (append_assoc h hp.0 more) ∙ ap (λ x. x ++ more) hp.1 ∙ whole_is in
      let taken : h ≡ take (length h) r = sym (take-append_seam h (hp.0 ++ more)) ∙ ap (take (length h)) hr in
      let j : records_in t.batches ≡ records_in (batches (last_row_stamp rows) t.made.place t.made.taken) = ap records_in k.over.batches in
      let n : xs ++ (pre.0 ++ front.0) ≡ newer_held a h = sym (append_assoc xs pre.0 front.0) ∙ ap (λ x. x ++ front.0) (pre.1 ∙ j) ∙ front.1 in
      let gained : t.gained ≡ length xs = omega (arith, rows_length rows after xs read is, k.over.gained) in
      let take_is : take t.gained (newer_held a h) ≡ xs = ap (λ x. take x (newer_held a h)) gained ∙ ap (take (length xs)) (sym n) ∙ take-append_seam xs (pre.0 ++ front.0) in
      let size : t.gained ≤ length (newer_held a h) = omega (arith, gained, ap length n, length-append xs (pre.0 ++ front.0)) in
      let many : min (records_on_pages t.acknowledged b.plan) (length (newer_held a h)) ≤ t.gained = omega (arith, enough, gained) in
      let at : (min (records_on_pages t.acknowledged b.plan) (length (newer_held a (take (length h) r))) ≤ t.gained) × (t.gained ≤ length (newer_held a (take (length h) r)))
      × (after ≡ rows ++ stored_rows settings (take t.gained (newer_held a (take (length h) r))))
      = subst (λ x. (min (records_on_pages t.acknowledged b.plan) (length (newer_held a x)) ≤ t.gained) × (t.gained ≤ length (newer_held a x)) × (after ≡ rows ++ stored_rows settings (take t.gained (newer_held a x)))) taken
      (many, size, is ∙ ap (λ x. rows ++ stored_rows settings x) (sym take_is)) in (
        subst (λ x. DumpsGather settings r (map (dump_count t.acknowledged t.gained) x) rows after) (sym ds) at,
        subst (AreFirst r) (sym ds) (taken, tt),
        λ whole every.
            let m : length after ≡ length rows + length (records_in t.batches) = rows_length rows after (records_in t.batches) (batches_of rows after w u t k) every in
            let z : t.gained ≡ length (newer_held a h) = (let y : t.gained ≡ length (records_in t.batches) = omega (arith, m, k.over.gained) in y ∙ ap length (j ∙ wholly (ap end_of whole))) in
            (b, ds, z ∙ ap (λ x. length (newer_held a x)) taken),
      )

  harmed_law : (rows after : List Row) (w u : Line) (t : LineAttempt) → IsCalm w → IsSound w → IsMadeOver f rows w t after u → IsPlain t.made.end → (trouble : Trouble) → t.made.end ≡ dump_end.Failed trouble → 0 < t.harmed
  harmed_law rows after w u t calm sound k plain trouble failed = go t.harmed refl
    where
      clean : u.harmed ≡ w.harmed → (end_of t.made.end ≡ End.Whole) ⊎ (end_of t.made.end ≡ End.Refused)
      clean h =
          clean_law (stamp_frame_of (last_row_stamp rows)) (frame_good (last_row_stamp rows)) f ok t.made.said t.made.place t.made.taken (end_of t.made.end) w u (frame_long (last_row_stamp rows)) sound calm (attempt_of rows after w u t k plain) k.over.talks h

      not_clean : (end_of t.made.end ≡ End.Whole) ⊎ (end_of t.made.end ≡ End.Refused) → ⊥
      not_clean (inl x) = let y : End.Failed trouble ≡ End.Whole = sym (ap end_of failed) ∙ x in cc
      not_clean (inr x) = let y : End.Failed trouble ≡ End.Refused = sym (ap end_of failed) ∙ x in cc

      go : (n : ℕ) → t.harmed ≡ n → 0 < t.harmed
      go zero z = absurd (not_clean (clean (omega (arith, k.over.harmed, z))))
      go (suc n) z = omega (arith, z)

  -- batches of an attempt have the records of the pages that were acknowledged in it
  abbrev Covered : List Row → Line → Line → LineAttempt → List (List (List ℕ)) → Type 0
  Covered rows w u t bs = CoversPages (last_row_stamp rows) (pages_acknowledged f t.made.said w) w bs u

  abbrev Goes : List Row → LineAttempt → End → Type 0
  Goes rows t e = Attempt (stamp_frame_of (last_row_stamp rows)) t.made.said t.made.place t.made.taken e

  refused_covered : (rows after : List Row) (w u : Line) (t : LineAttempt) → IsCalm w → IsSound w → IsStamp (last_row_stamp rows) → IsMadeOver f rows w t after u → u.unseen ≡ None
      → EndsGiving (last_row_stamp rows) t.made.place t.made.taken → Goes rows t End.Refused → Covered rows w u t (but_last (batches (last_row_stamp rows) t.made.place t.made.taken))
  refused_covered rows after w u t calm sound stamp k un gives x =
      let last = last_row_stamp rows in
      let s = some_last t.made.taken (attempt_some (stamp_frame_of last) t.made.said t.made.place t.made.taken x) in
      subst (λ bs. CoversPages last (pages_acknowledged f t.made.said w) w bs u) (sym (but_last_batches last t.made.place t.made.taken s.0 s.1 s.2 gives))
      (refused_covers f ok last stamp t.made.said t.made.place s.0 s.1 w u sound calm (subst (λ z. Attempt (stamp_frame_of last) t.made.said t.made.place z End.Refused) s.2 x) k.over.talks un)

  covered_by : (rows after : List Row) (w u : Line) (t : LineAttempt) → IsCalm w → IsSound w → IsStamp (last_row_stamp rows) → IsMadeOver f rows w t after u → u.unseen ≡ None
      → (e : DumpEnd) → IsPlain e → Goes rows t (end_of e) → RefusesLast e (last_row_stamp rows) t.made.place t.made.taken → Covered rows w u t (kept_batches e (batches (last_row_stamp rows) t.made.place t.made.taken))
  covered_by rows after w u t calm sound stamp k un dump_end.Whole p x r = kept_covers f ok (last_row_stamp rows) stamp t.made.said t.made.place t.made.taken End.Whole w u sound calm x k.over.talks un (λ no. cc)
  covered_by rows after w u t calm sound stamp k un (dump_end.Failed trouble) p x r = kept_covers f ok (last_row_stamp rows) stamp t.made.said t.made.place t.made.taken (End.Failed trouble) w u sound calm x k.over.talks un (λ no. cc)
  covered_by rows after w u t calm sound stamp k un dump_end.Flood p x r = kept_covers f ok (last_row_stamp rows) stamp t.made.said t.made.place t.made.taken End.Flooded w u sound calm x k.over.talks un (λ no. cc)
  covered_by rows after w u t calm sound stamp k un dump_end.Full p x r = refused_covered rows after w u t calm sound stamp k un (r (λ no. cc)) x
  covered_by rows after w u t calm sound stamp k un dump_end.Stale p x r = refused_covered rows after w u t calm sound stamp k un (r (λ no. cc)) x
  covered_by rows after w u t calm sound stamp k un dump_end.DiskFault p x r = refused_covered rows after w u t calm sound stamp k un (r (λ no. cc)) x
  covered_by rows after w u t calm sound stamp k un dump_end.LinkFault p x r = absurd p
  covered_by rows after w u t calm sound stamp k un dump_end.OutOfMemory p x r = absurd p

  -- so have those that were kept
  kept_cover : (rows after : List Row) (w u : Line) (t : LineAttempt) → IsCalm w → IsSound w → IsStamp (last_row_stamp rows) → IsMadeOver f rows w t after u → IsPlain t.made.end → u.unseen ≡ None
      → CoversPages (last_row_stamp rows) t.acknowledged w (kept_batches t.made.end t.batches) u
  kept_cover rows after w u t calm sound stamp k plain un =
      subst (λ n. CoversPages (last_row_stamp rows) n w (kept_batches t.made.end t.batches) u) (sym k.over.acknowledged)
      (subst (λ bs. CoversPages (last_row_stamp rows) (pages_acknowledged f t.made.said w) w (kept_batches t.made.end bs) u) (sym k.over.batches)
      (covered_by rows after w u t calm sound stamp k un t.made.end plain (attempt_of rows after w u t k plain) k.attempt.refused))

  pub one_law : (rows after : List Row) (w u : Line) (t : LineAttempt) → IsCalm w → IsSound w → Now left all w → IsStamp (last_row_stamp rows) → IsMadeOver f rows w t after u → IsPlain t.made.end → u.unseen ≡ None
      → (xs : List (List ℕ)) → after ≡ rows ++ stored_rows settings xs → IsFrontOf xs (records_in t.batches) → IsFrontOf (records_in (kept_batches t.made.end t.batches)) xs → One rows after t u
  one_law rows after w u t calm sound now stamp k plain un xs is pre kept = go q.1
    where
      at : Attempt (stamp_frame_of (last_row_stamp rows)) t.made.said t.made.place t.made.taken (end_of t.made.end)
      at = attempt_of rows after w u t k plain

      q : IsCalm u × AttemptGives (last_row_stamp rows) w (batches (last_row_stamp rows) t.made.place t.made.taken) (end_of t.made.end) u
      q = attempt_gives f ok (last_row_stamp rows) stamp t.made.said t.made.place t.made.taken (end_of t.made.end) w u sound calm at k.over.talks un

      n : Now left all u
      n = now_attempt f ok left falls all rises (stamp_frame_of (last_row_stamp rows)) t.made.said t.made.place t.made.taken (end_of t.made.end) w u (frame_long (last_row_stamp rows)) sound calm at now k.over.talks un

      read : AllRead xs
      read = read_front xs pre.0 (subst AllRead (sym pre.1) (batches_of rows after w u t k))

      after_stamp : IsStamp (last_row_stamp after)
      after_stamp = subst (λ x. IsStamp (last_row_stamp x)) (sym is) (rows_stamp settings rows xs read stamp)

      still : IsSound u
      still = sound_talk f ok t.made.said w u k.over.talks sound

      go : AttemptGives (last_row_stamp rows) w (batches (last_row_stamp rows) t.made.place t.made.taken) (end_of t.made.end) u → One rows after t u
      go (inl (d, none, not_whole)) =
          let ds : t.dumps ≡ [] = cancel w.dumps t.dumps [] (sym k.over.dumps ∙ d ∙ sym (append-nil w.dumps)) in
          let bs : records_in t.batches ≡ [] = ap records_in (k.over.batches ∙ none) in
          let zero_ : xs ≡ [] = none_first xs pre.0 (pre.1 ∙ bs) in
          let same : after ≡ rows = is ∙ ap (λ x. rows ++ stored_rows settings x) zero_ ∙ append-nil rows in
          record {
            calm = q.0;
            sound = still;
            now = n;
            stamp = after_stamp;
            gathers = subst (λ x. DumpsGather settings r (map (dump_count t.acknowledged t.gained) x) rows after) (sym ds) same;
            first = subst (AreFirst r) (sym ds) tt;
            whole = λ whole every. absurd (not_whole (ap end_of whole));
            harmed = harmed_law rows after w u t calm sound k plain;
          }
      go (inr (h, d, front, wholly)) =
          let cover = kept_cover rows after w u t calm sound stamp k plain un h d in
          let enough : min (records_on_pages t.acknowledged (begun_after (last_row_stamp rows) h).plan) (length (newer_held (last_row_stamp rows) h)) ≤ length xs
          = omega (arith, cover, ap length kept.1, length-append (records_in (kept_batches t.made.end t.batches)) kept.0) in
          let z = with_dump rows after w u t h k xs read is pre enough n.begun d front wholly in
          record { calm = q.0; sound = still; now = n; stamp = after_stamp; gathers = z.0; first = z.1; whole = z.2; harmed = harmed_law rows after w u t calm sound k plain }

  -- nothing was unseen before
  pub tries_unseen : (stop : Option Stop) (n m : ℕ) (a : Archive) (w : Line) (ts : List LineAttempt) (end : Ending) (kept at : Archive) (v : Line) → Tries settings f stop n m a w ts end kept at v → v.unseen ≡ None → w.unseen ≡ None
  tries_unseen stop n m a w [] end kept at v (three, gave, k, l, is) u = ap (λ x. x.unseen) (sym is) ∙ u
  tries_unseen stop n m a w (t ∷ ts) end kept at v (less, (x, b, k, inl (g, keeps, failed, again))) u = goes_unseen f t.made.said w x k.over.talks (tries_unseen stop (n + 1) g b x ts end kept at v again u)
  tries_unseen stop n m a w (t ∷ ts) end kept at v (less, (x, b, k, inr (inl (g, keeps, whole, none, ok_, kb, lb, is)))) u = goes_unseen f t.made.said w x k.over.talks (ap (λ y. y.unseen) (sym is) ∙ u)
  tries_unseen stop n m a w (t ∷ ts) end kept at v (less, (x, b, k, inr (inr (inl (keeps, refused, none, full, kb, lb, is))))) u = goes_unseen f t.made.said w x k.over.talks (ap (λ y. y.unseen) (sym is) ∙ u)
  tries_unseen stop n m a w (t ∷ ts) end kept at v (less, (x, b, k, inr (inr (inr (keeps, refused, none, stops, lb, is))))) u = goes_unseen f t.made.said w x k.over.talks (ap (λ y. y.unseen) (sym is) ∙ u)

  -- what is so of the attempts of a round
  pub record Made (n m : ℕ) (a : Archive) (ts : List LineAttempt) (end : Ending) (kept at : Archive) (v : Line) : Type 0 where
    pub calm : IsCalm v
    pub sound : IsSound v
    pub now : Now left all v
    pub gathers : DumpsGather settings r (dump_counts ts) a.rows at.rows
    pub first : AllByRecursion (λ (t : LineAttempt). AreFirst r t.dumps) ts
    pub complete : end ≡ Ending.Ok → (d : List DumpCount) → DumpsGather settings r d [] a.rows → IsComplete settings r d ts
    pub acked : length kept.rows ≡ length a.rows + records_kept ts
    pub before : IsFrontOf a.rows kept.rows
    pub after : IsFrontOf kept.rows at.rows
    pub harmed : end ≡ Ending.GaveUp → (n + length ts ≡ most_attempts) × AllByRecursion (λ (t : LineAttempt). 0 < t.harmed) ts
    pub stops : (k : ℕ) → end ≡ Ending.Stopped k → (j : ℕ) × (batches_before k ≡ m + j) × (length (batches_given ts) ≡ j + 1)
        × ((at.rows ≡ and_rows settings a.rows (take j (batches_given ts))) ⊎ (at.rows ≡ and_rows settings a.rows (take (j + 1) (batches_given ts))))
    pub same : ((k : ℕ) → end ≢ Ending.Stopped k) → kept ≡ at

  pub front_rows : (rows after : List Row) (xs : List (List ℕ)) → after ≡ rows ++ stored_rows settings xs → IsFrontOf rows after
  front_rows rows after xs is = (stored_rows settings xs, sym is)

  given_one : (t : LineAttempt) → batches_given (t ∷ []) ≡ t.batches
  given_one t = append-nil t.batches

  counts_one : (t : LineAttempt) → dump_counts (t ∷ []) ≡ counts_of_attempt t
  counts_one t = append-nil (counts_of_attempt t)

  kept_one : (t : LineAttempt) (end : DumpEnd) → t.made.end ≡ end → records_kept (t ∷ []) ≡ length (records_in (kept_batches end t.batches))
  kept_one t end is =
      let z : records_kept (t ∷ []) ≡ length (kept_records (handed_in t)) = omega arith in
      z ∙ ap length (kept_by_end t.made.end t.batches) ∙ ap (λ x. length (records_in (kept_batches x t.batches))) is

  pub plain_as : (e e2 : DumpEnd) → e ≡ e2 → IsPlain e2 → IsPlain e
  plain_as e e2 is h = subst IsPlain (sym is) h

  read_but_last : (bs : List (List (List ℕ))) → AllRead (records_in bs) → AllRead (records_in (but_last bs))
  read_but_last bs h = let q = front_but_last bs in read_front (records_in (but_last bs)) q.0 (subst AllRead (sym q.1) h)

  -- an attempt that is the last
  last_made : (n m : ℕ) (a kept at : Archive) (t : LineAttempt) (end : Ending) (u : Line) → One a.rows at.rows t u → length kept.rows ≡ length a.rows + records_kept (t ∷ []) → IsFrontOf a.rows kept.rows → IsFrontOf kept.rows at.rows →
      (end ≡ Ending.Ok → (t.made.end ≡ dump_end.Whole) × (at.rows ≡ and_rows settings a.rows t.batches)) → end ≢ Ending.GaveUp →
      ((k : ℕ) → end ≡ Ending.Stopped k → (j : ℕ) × (batches_before k ≡ m + j) × (length t.batches ≡ j + 1)
      × ((at.rows ≡ and_rows settings a.rows (take j t.batches)) ⊎ (at.rows ≡ and_rows settings a.rows (take (j + 1) t.batches)))) →
      (((k : ℕ) → end ≢ Ending.Stopped k) → kept ≡ at) → Made n m a (t ∷ []) end kept at u
  last_made n m a kept at t end u one acked before after whole not_gave stops same = record {
    calm = one.calm;
    sound = one.sound;
    now = one.now;
    gathers = subst (λ x. DumpsGather settings r x a.rows at.rows) (sym (counts_one t)) one.gathers;
    first = (one.first, tt);
    complete = λ ended d h.
        let w = whole ended in
        let q = one.whole w.0 w.1 in
        record {
          earlier = [];
          last = t;
          is_last = refl;
          dump = q.0;
          began = q.1;
          last_count = counts_one t ∙ ap (λ x. map (dump_count t.acknowledged t.gained) x) q.1;
          rows = a.rows;
          gathered = subst (λ x. DumpsGather settings r x [] a.rows) (sym (append-nil d)) h;
          whole = q.2;
        };
    acked = acked;
    before = before;
    after = after;
    harmed = λ gave. absurd (not_gave gave);
    stops = λ k is. subst (λ x. (j : ℕ) × (batches_before k ≡ m + j) × (length x ≡ j + 1) × ((at.rows ≡ and_rows settings a.rows (take j x)) ⊎ (at.rows ≡ and_rows settings a.rows (take (j + 1) x)))) (sym (given_one t)) (stops k is);
    same = same;
  }

  -- where nothing follows
  carried : (n m : ℕ) (a kept at kept2 at2 : Archive) (t : LineAttempt) (ts : List LineAttempt) (end end2 : Ending) (u v : Line) → ts ≡ [] → end2 ≡ end → kept2 ≡ kept → at2 ≡ at → v ≡ u → Made n m a (t ∷ []) end kept at u → Made n m a (t ∷ ts) end2 kept2 at2 v
  carried n m a kept at kept2 at2 t ts end end2 u v none en kn an vn x =
      subst (λ l. Made n m a (t ∷ l) end2 kept2 at2 v) (sym none) (subst (λ l. Made n m a (t ∷ []) l kept2 at2 v) (sym en)
      (subst (λ l. Made n m a (t ∷ []) end l at2 v) (sym kn) (subst (λ l. Made n m a (t ∷ []) end kept l v) (sym an) (subst (Made n m a (t ∷ []) end kept at) (sym vn) x))))

  -- an attempt that failed, and more
  failed_made : (n m g : ℕ) (a b kept at : Archive) (t : LineAttempt) (ts : List LineAttempt) (end : Ending) (u v : Line) → AllRead (records_in t.batches) → One a.rows b.rows t u → b.rows ≡ and_rows settings a.rows t.batches → g ≡ m + length t.batches
      → (trouble : Trouble) → t.made.end ≡ dump_end.Failed trouble → Made (n + 1) g b ts end kept at v → Made n m a (t ∷ ts) end kept at v
  failed_made n m g a b kept at t ts end u v read one is count trouble failed more_made =
      let ps = counts_of_attempt t in
      let bs = t.batches in
      let l = rows_length a.rows b.rows (records_in t.batches) read is in
      let acked : length (kept_records (handed_in t)) ≡ length (records_in t.batches) = ap length (kept_by_end t.made.end t.batches) ∙ ap (λ x. length (records_in (kept_batches x t.batches))) failed in
      record {
        calm = more_made.calm;
        sound = more_made.sound;
        now = more_made.now;
        gathers = gathered_join settings r (counts_of_attempt t) (dump_counts ts) a.rows b.rows at.rows one.gathers more_made.gathers;
        first = (one.first, more_made.first);
        complete = λ ended d h.
            let q = more_made.complete ended (d ++ counts_of_attempt t) (gathered_join settings r d (counts_of_attempt t) [] a.rows b.rows h one.gathers) in
            record {
              earlier = t ∷ q.earlier;
              last = q.last;
              is_last = ap (λ x. t ∷ x) q.is_last;
              dump = q.dump;
              began = q.began;
              last_count = ap (λ x. ps ++ x) q.last_count ∙ sym (append_assoc ps (dump_counts q.earlier) (dump_count q.last.acknowledged q.last.gained q.dump ∷ []));
              rows = q.rows;
              gathered = subst (λ x. DumpsGather settings r x [] q.rows) (append_assoc d ps (dump_counts q.earlier)) q.gathered;
              whole = q.whole;
            };
        acked = omega (arith, more_made.acked, l, acked);
        before = front_join a.rows b.rows kept.rows (front_rows a.rows b.rows (records_in t.batches) is) more_made.before;
        after = more_made.after;
        harmed = λ gave. let q = more_made.harmed gave in (omega (arith, q.0), (one.harmed trouble failed, q.1));
        stops = λ k en.
            let q = more_made.stops k en in
            let size : length (bs ++ batches_given ts) ≡ length bs + q.0 + 1 = omega (arith, q.2, length-append bs (batches_given ts)) in
            let moved : (j : ℕ) → and_rows settings b.rows (take j (batches_given ts)) ≡ and_rows settings a.rows (take (length bs + j) (bs ++ batches_given ts))
            = λ j. and_moved a.rows b.rows t.batches (take j (batches_given ts)) is ∙ ap (and_rows settings a.rows) (sym (take-append-add bs (batches_given ts) j)) in (
              length bs + q.0,
              omega (arith, q.1, count),
              size,
              elim q.3 [
                | inl z ↦ inl (z ∙ moved q.0)
                | inr z ↦ inr (z ∙ moved (q.0 + 1) ∙ ap (λ x. and_rows settings a.rows (take x (bs ++ batches_given ts))) (let y : length bs + (q.0 + 1) ≡ length bs + q.0 + 1 = omega arith in y))
              ],
            );
        same = more_made.same;
      }
    where
      and_moved : (rows after : List Row) (bs cs : List (List (List ℕ))) → after ≡ and_rows settings rows bs → and_rows settings after cs ≡ and_rows settings rows (bs ++ cs)
      and_moved rows after bs cs is =
          ap (λ x. and_rows settings x cs) is ∙ and_more settings rows (records_in bs) cs ∙ ap (λ x. rows ++ stored_rows settings x) (sym (records_append bs cs))

  stop_is : (stop : Option Stop) (the : Stop) (end : Ending) → EndsStopped stop end → stop ≡ Some the → end ≡ Ending.Stopped the.change
  stop_is stop the end h is = subst (λ x. EndsStopped x end) is h

  pub tries_law : (stop : Option Stop) (n m : ℕ) (a : Archive) (w : Line) (ts : List LineAttempt) (end : Ending) (kept at : Archive) (v : Line) → Tries settings f stop n m a w ts end kept at v → IsCalm w → IsSound w → Now left all w → IsStamp (last_row_stamp a.rows) → v.unseen ≡ None → Made n m a ts end kept at v
  tries_law stop n m a w [] end kept at v (three, gave, kb, lb, is) calm sound now stamp u =
      let none : kept ≡ at = kb ∙ sym lb in
      record {
        calm = subst IsCalm (sym is) calm;
        sound = subst IsSound (sym is) sound;
        now = subst (Now left all) (sym is) now;
        gathers = ap (λ x. x.rows) lb;
        first = tt;
        complete = λ ended. absurd (let y : Ending.Ok ≡ Ending.GaveUp = sym ended ∙ gave in cc);
        acked = omega (arith, ap (λ x. length x.rows) kb);
        before = subst (λ x. IsFrontOf a.rows x.rows) (sym kb) (front_same a.rows);
        after = subst (λ x. IsFrontOf kept.rows x.rows) none (front_same kept.rows);
        harmed = λ z. (omega (arith, three), tt);
        stops = λ k is. absurd (let y : Ending.Stopped k ≡ Ending.GaveUp = sym is ∙ gave in cc);
        same = λ z. none;
      }
  tries_law stop n m a w (t ∷ ts) end kept at v (less, (x, b, k, inl (g, keeps, (trouble, failed), again))) calm sound now stamp u =
      let p = keeps_part settings stop m a t.batches (Keeping.Goes g b) keeps in
      let plain = plain_as t.made.end (dump_end.Failed trouble) failed tt in
      let one = one_law a.rows b.rows w x t calm sound now stamp k plain (tries_unseen stop (n + 1) g b x ts end kept at v again u) (records_in t.batches) p.0 (all_front t.batches) (kept_front t.made.end t.batches) in
      failed_made n m g a b kept at t ts end x v (batches_of a.rows b.rows w x t k) one p.0 p.1 trouble failed (tries_law stop (n + 1) g b x ts end kept at v again one.calm one.sound one.now one.stamp u)
  tries_law stop n m a w (t ∷ ts) end kept at v (less, (x, b, k, inr (inl (g, keeps, whole, none, ended, kb, lb, is)))) calm sound now stamp u =
      let p = keeps_part settings stop m a t.batches (Keeping.Goes g b) keeps in
      let plain = plain_as t.made.end dump_end.Whole whole tt in
      let one = one_law a.rows b.rows w x t calm sound now stamp k plain (ap (λ y. y.unseen) (sym is) ∙ u) (records_in t.batches) p.0 (all_front t.batches) (kept_front t.made.end t.batches) in
      carried n m a b b kept at t ts Ending.Ok end x v none ended kb lb is (last_made n m a b b t Ending.Ok x one
      (omega (arith, rows_length a.rows b.rows (records_in t.batches) (batches_of a.rows b.rows w x t k) p.0, kept_one t dump_end.Whole whole))
      (front_rows a.rows b.rows (records_in t.batches) p.0) (front_same b.rows) (λ z. (whole, p.0)) (λ z. cc) (λ z y. absurd cc) (λ z. refl))
  tries_law stop n m a w (t ∷ ts) end kept at v (less, (x, b, k, inr (inr (inl (keeps, refused, none, full, kb, lb, is))))) calm sound now stamp u =
      let p = keeps_part settings stop m a t.batches (Keeping.Fills b) keeps in
      let plain = plain_as t.made.end dump_end.Full refused tt in
      let one = one_law a.rows b.rows w x t calm sound now stamp k plain (ap (λ y. y.unseen) (sym is) ∙ u) (records_in (but_last t.batches)) p.0 (front_but_last t.batches)
      (kept_as t dump_end.Full (records_in (but_last t.batches)) refused (all_front (but_last t.batches))) in
      carried n m a b b kept at t ts Ending.Full end x v none full kb lb is (last_made n m a b b t Ending.Full x one
      (omega (arith, rows_length a.rows b.rows (records_in (but_last t.batches)) (read_but_last t.batches (batches_of a.rows b.rows w x t k)) p.0, kept_one t dump_end.Full refused))
      (front_rows a.rows b.rows (records_in (but_last t.batches)) p.0) (front_same b.rows) (λ z. absurd cc) (λ z. cc) (λ z y. absurd cc) (λ z. refl))
  tries_law stop n m a w (t ∷ ts) end kept at v (less, (x, b, k, inr (inr (inr (keeps, refused, none, stops, lb, is))))) calm sound now stamp u =
      let p : Parted settings stop m a t.batches kept b = keeps_part settings stop m a t.batches (Keeping.Breaks kept b) keeps in
      let plain = plain_as t.made.end dump_end.DiskFault refused tt in
      let en = stop_is stop p.the end stops p.is in
      let y : (xs : List (List ℕ)) × (b.rows ≡ a.rows ++ stored_rows settings xs) × IsFrontOf xs (records_in t.batches) × IsFrontOf (records_in (but_last t.batches)) xs = elim p.after [
        | inl z ↦ (records_in (but_last t.batches), z ∙ p.kept, front_but_last t.batches, all_front (but_last t.batches))
        | inr z ↦ (records_in t.batches, z, all_front t.batches, front_but_last t.batches)
      ] in
      let one = one_law a.rows b.rows w x t calm sound now stamp k plain (ap (λ y. y.unseen) (sym is) ∙ u) y.0 y.1 y.2 (kept_as t dump_end.DiskFault y.0 refused y.3) in
      carried n m a kept b kept at t ts (Ending.Stopped p.the.change) end x v none en refl lb is (last_made n m a kept b t (Ending.Stopped p.the.change) x one
      (omega (arith, rows_length a.rows kept.rows (records_in (but_last t.batches)) (read_but_last t.batches (batches_of a.rows b.rows w x t k)) p.kept, kept_one t dump_end.DiskFault refused))
      (front_rows a.rows kept.rows (records_in (but_last t.batches)) p.kept)
      (elim p.after [
        | inl z ↦ subst (IsFrontOf kept.rows) (sym z) (front_same kept.rows)
        | inr z ↦ kept_front p.kept z
      ]) (λ z. absurd cc) (λ z. cc)
      (λ j z. let q : j ≡ p.the.change = cc in (p.place, ap batches_before q ∙ p.at, p.all, p.left))
      (λ z. absurd (z p.the.change refl)))
    where
      kept_front : kept.rows ≡ and_rows settings a.rows (but_last t.batches) → b.rows ≡ and_rows settings a.rows t.batches → IsFrontOf kept.rows b.rows
      kept_front h i = let q = front_but_last t.batches in (
        stored_rows settings q.0,
        ap (λ x. x ++ stored_rows settings q.0) h ∙ append_assoc a.rows (stored_rows settings (records_in (but_last t.batches))) (stored_rows settings q.0)
            ∙ ap (λ x. a.rows ++ x) (sym (stored_append settings (records_in (but_last t.batches)) q.0) ∙ ap (stored_rows settings) q.1) ∙ sym i,
      )
