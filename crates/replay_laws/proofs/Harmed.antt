-- A round over a calm line, attempt by attempt, and the harm in them.
use Rattle.std.proofs.Common.{◌≡◌, ◌≢◌, ℕ, zero, suc, ◌+◌, ◌-◌, ◌<◌, ◌⊎◌, inl, inr, List, [], ◌∷◌, ◌++◌, length, Option, Some, None, refl, sym, ◌∙◌, ap, subst, arith, append-nil}
use Rattle.std.proofs.lemmas.Option.{same_Some}
use Rattle.causes.specs.Cause.{Rose}
use Rattle.causes.specs.declared.stored.Stored.TheVariants as kept
use Rattle.station_base.specs.CivilMinute.{CivilMinute}
use Rattle.vantage_frames.specs.StampFrame.{stamp_frame_of}
use Rattle.dmpaft_driver.specs.Attempt.{Attempt, End}
use Rattle.dmpaft_driver.specs.Gathered.{keeper_answer}
use Rattle.dmpaft_pump.specs.Keeper.{Refusal, Handed, join}
use Rattle.dmpaft_pump.specs.Batch.{batches, records_in}
use Rattle.dmpaft_pump.proofs.HandedBatches.{join_none}
use Rattle.dmpaft_pump.specs.declared.outcome.DumpEnd.{DumpEnd}
use Rattle.dmpaft_pump.specs.declared.outcome.DumpEnd.TheVariants as dump_end
use Rattle.dmpaft_driver.proofs.AttemptBounds.{frame_long}
use Rattle.station_session.specs.declared.round_end.RoundEnd.{RoundEnd}
use Rattle.station_session.specs.declared.round_end.RoundEnd.TheVariants as round_end
use Rattle.station_session.specs.Attempts.{MadeAttempt, IsMadeAfter, AreAttempts, EndsBefore, end_after, batches_in, stamp_after, all_batches, all_said, most_attempts}
use Rattle.station_session.specs.Batches.{last_answer, Fit}
use Rattle.station_session.proofs.Ends.{last_in, went_on}
use Rattle.station_session.proofs.Parts.{fit_parts}
use Rattle.station_session.specs.declared.report.Report.{Report}
use Rattle.station_session.specs.Round.{RoundHost, ServesRound, AnswersRound}
use Rattle.packed_rows.specs.Rising.{last_row_stamp}
use Rattle.station_base.specs.declared.row.Row.{Row}
use Rattle.disk_model.specs.Medium.{Medium}
use Rattle.station_sim.specs.declared.sim.Sim.{Sim}
use Rattle.schedule_file.specs.Lists.{fates_of}
use Rattle.station_sim.specs.Standing.{SimStandsFor}
use Rattle.station_sim.specs.Telling.{sim_traffic}
use Rattle.station_sim.proofs.Falls.{fates_sound}
use Rattle.station_sim.specs.Calm.{IsCalm}
use Rattle.schedule_file.specs.Fates.{FatesByNumber}
use Rattle.station_sim.specs.Joining.{talks_part}
use Rattle.station_sim.specs.Line.{Line}
use Rattle.station_sim.specs.Sound.{IsSound, AreSound}
use Rattle.station_sim.specs.Talk.{console_talk}
use Rattle.station_sim.proofs.SoundLines.{sound_talk}
use Rattle.replay_laws.specs.Harm.{DiskFailed, LinkShort, EndsUnharmed, IsSpared, EachOver, EachHarmed, HarmTells}
use Rattle.line_laws.proofs.Attempts.{attempt_law}
use Rattle.line_laws.proofs.Clean.{goes_harmed}
use Rattle.line_laws.proofs.WholeAttempts.{clean_law}
use Rattle.line_laws.proofs.Headers.{frame_good}
use Rattle.line_laws.proofs.Pages.{goes_unseen}
use Rattle.replay_laws.proofs.Rounds.{IsPlain, end_of, plain_ended}

-- no batch that was judged is refused as stale
stale_fits : (most held : ℕ) (ss : Handed) → Fit most held ss → last_answer ss ≡ kept.Stale → ⊥
stale_fits most held Handed.Nothing fit is = cc
stale_fits most held (Handed.Kept rows more) fit is = stale_fits most (held + length rows) more fit.1 is
stale_fits most held (Handed.Refused rows Refusal.Full) fit is = cc
stale_fits most held (Handed.Refused rows Refusal.Stale) fit is = fit
stale_fits most held (Handed.Refused rows Refusal.DiskFault) fit is = cc

-- an attempt with which a round need not end is failed
failed_end : (e : DumpEnd) → end_after e ≡ None → IsPlain e × ((end_of e ≡ End.Whole) ⊎ (end_of e ≡ End.Refused) → ⊥)
failed_end (dump_end.Failed trouble) h = (
  tt,
  λ x. elim x [
    | inl z ↦ cc
    | inr z ↦ cc
  ],
)
failed_end dump_end.Whole h = absurd cc
failed_end dump_end.Full h = absurd cc
failed_end dump_end.Stale h = absurd cc
failed_end dump_end.DiskFault h = absurd cc
failed_end dump_end.Flood h = absurd cc
failed_end dump_end.LinkFault h = absurd cc
failed_end dump_end.OutOfMemory h = absurd cc

module _ (f : FatesByNumber) (ok : AreSound f) (failed short : Type 0) where
  -- one attempt whose link and memory did not fail: harm, or an end of one without
  one_over : (last : Option CivilMinute) (t : MadeAttempt) (w u : Line) → IsMadeAfter last t → IsPlain t.end → IsSound w → IsCalm w → console_talk f t.said w ≡ Some u → u.unseen ≡ None →
      IsCalm u × ((0 < u.harmed - w.harmed) ⊎ ((end_of t.end ≡ End.Whole) ⊎ (end_of t.end ≡ End.Refused)))
  one_over last t w u tried plain sound calm e un = ((attempt_law f ok (stamp_frame_of last) (frame_long last) t.said t.place t.taken (end_of t.end) w u sound calm at e un).0, go (u.harmed - w.harmed) refl)
    where
      at : Attempt (stamp_frame_of last) t.said t.place t.taken (end_of t.end)
      at = plain_ended (λ said taken end. Attempt (stamp_frame_of last) said t.place taken end) t.end t.said t.taken plain tried.ends

      go : (n : ℕ) → u.harmed - w.harmed ≡ n → (0 < u.harmed - w.harmed) ⊎ ((end_of t.end ≡ End.Whole) ⊎ (end_of t.end ≡ End.Refused))
      go zero z = inr (clean_law (stamp_frame_of last) (frame_good last) f ok t.said t.place t.taken (end_of t.end) w u (frame_long last) sound calm at e (omega (arith, z, goes_harmed f t.said w u e)))
      go (suc n) z = inl (omega (arith, z))

  -- the attempts of a round from here, so many being made
  pub record Over (made : ℕ) (w : Line) (ts : List MadeAttempt) (end : RoundEnd) (v : Line) : Type 0 where
    pub each : EachOver (λ e harmed. (0 < harmed) ⊎ EndsUnharmed failed short e) f w ts v
    pub gave_up : end ≡ round_end.GaveUp → (made + length ts ≡ most_attempts) × EachHarmed f w ts v
    pub spared : IsSpared failed short end ⊎ EachHarmed f w ts v
    pub calm : end ≢ round_end.OutOfMemory → IsCalm v

  -- the last attempt ends well, or for what is outside of the line
  ends_well : (made : ℕ) (t : MadeAttempt) (end : RoundEnd) (w v : Line) → console_talk f t.said w ≡ Some v → EndsUnharmed failed short t.end → IsSpared failed short end → (end ≢ round_end.OutOfMemory → IsCalm v) → Over made w (t ∷ []) end v
  ends_well made t end w v e may spared calm = record {
    each = (v, e, inr may, refl);
    gave_up = λ gave. absurd (subst (IsSpared failed short) gave spared);
    spared = inl spared;
    calm = calm;
  }

  -- it ends after harm
  ends_harmed : (made : ℕ) (t : MadeAttempt) (end : RoundEnd) (w v : Line) → console_talk f t.said w ≡ Some v → 0 < v.harmed - w.harmed → end ≢ round_end.GaveUp → IsCalm v → Over made w (t ∷ []) end v
  ends_harmed made t end w v e harm not calm = record {
    each = (v, e, inl harm, refl);
    gave_up = λ gave. absurd (not gave);
    spared = inr (v, e, harm, refl);
    calm = λ z. calm;
  }

  ends_plainly : (made : ℕ) (last : Option CivilMinute) (t : MadeAttempt) (end : RoundEnd) (w v : Line) → IsMadeAfter last t → IsPlain t.end → IsSound w → IsCalm w → console_talk f t.said w ≡ Some v → v.unseen ≡ None →
      end ≢ round_end.GaveUp → ((end_of t.end ≡ End.Whole) ⊎ (end_of t.end ≡ End.Refused) → EndsUnharmed failed short t.end × IsSpared failed short end) → Over made w (t ∷ []) end v
  ends_plainly made last t end w v tried plain sound calm e un not may =
      let one = one_over last t w v tried plain sound calm e un in
      elim one.1 [
        | inl harm ↦ ends_harmed made t end w v e harm not one.0
        | inr well ↦ (let z = may well in ends_well made t end w v e z.0 z.1 (λ z. one.0))
      ]

  as_it : (t : MadeAttempt) (end : RoundEnd) (e : DumpEnd) (x : RoundEnd) → t.end ≡ e → Some x ≡ Some end → EndsUnharmed failed short e → IsSpared failed short x → EndsUnharmed failed short t.end × IsSpared failed short end
  as_it t end e x is ends may spared = (subst (EndsUnharmed failed short) (sym is) may, subst (IsSpared failed short) (same_Some x end ends) spared)

  last_over : (made : ℕ) (last : Option CivilMinute) (t : MadeAttempt) (end : RoundEnd) (w v : Line) (e : DumpEnd) → t.end ≡ e → end_after e ≡ Some end → IsMadeAfter last t → (e ≡ dump_end.Stale → ⊥) →
      (end ≡ round_end.DiskFault → failed) → (end ≡ round_end.OutOfMemory → short) → (end ≡ round_end.LinkFault → ⊥) → IsSound w → IsCalm w → console_talk f t.said w ≡ Some v → v.unseen ≡ None → Over made w (t ∷ []) end v
  last_over made last t end w v dump_end.Whole is ends tried fresh disk memory link sound calm e un =
      ends_plainly made last t end w v tried (subst IsPlain (sym is) tt) sound calm e un (λ gave. let y : round_end.Done ≡ round_end.GaveUp = same_Some _ end ends ∙ gave in cc) (λ z. as_it t end dump_end.Whole round_end.Done is ends tt tt)
  last_over made last t end w v (dump_end.Failed trouble) is ends tried fresh disk memory link sound calm e un = absurd cc
  last_over made last t end w v dump_end.Full is ends tried fresh disk memory link sound calm e un =
      ends_plainly made last t end w v tried (subst IsPlain (sym is) tt) sound calm e un (λ gave. let y : round_end.ArchiveFull ≡ round_end.GaveUp = same_Some _ end ends ∙ gave in cc) (λ z. as_it t end dump_end.Full round_end.ArchiveFull is ends tt tt)
  last_over made last t end w v dump_end.Stale is ends tried fresh disk memory link sound calm e un = absurd (fresh refl)
  last_over made last t end w v dump_end.DiskFault is ends tried fresh disk memory link sound calm e un =
      let failed_is = disk (sym (same_Some _ end ends)) in
      ends_plainly made last t end w v tried (subst IsPlain (sym is) tt) sound calm e un (λ gave. let y : round_end.DiskFault ≡ round_end.GaveUp = same_Some _ end ends ∙ gave in cc) (λ z. as_it t end dump_end.DiskFault round_end.DiskFault is ends failed_is failed_is)
  last_over made last t end w v dump_end.Flood is ends tried fresh disk memory link sound calm e un =
      ends_plainly made last t end w v tried (subst IsPlain (sym is) tt) sound calm e un (λ gave. let y : round_end.Flood ≡ round_end.GaveUp = same_Some _ end ends ∙ gave in cc) (λ z. absurd (elim z [
        | inl x ↦ (let y : End.Flooded ≡ End.Whole = sym (ap end_of is) ∙ x in cc)
        | inr x ↦ (let y : End.Flooded ≡ End.Refused = sym (ap end_of is) ∙ x in cc)
      ]))
  last_over made last t end w v dump_end.LinkFault is ends tried fresh disk memory link sound calm e un = absurd (link (sym (same_Some _ end ends)))
  last_over made last t end w v dump_end.OutOfMemory is ends tried fresh disk memory link sound calm e un =
      let short_is = memory (sym (same_Some _ end ends)) in
      let z = as_it t end dump_end.OutOfMemory round_end.OutOfMemory is ends short_is short_is in
      ends_well made t end w v e z.0 z.1 (λ not. absurd (not (sym (same_Some _ end ends))))

  none_before : (end : RoundEnd) → EndsBefore end → end ≡ round_end.GaveUp → ⊥
  none_before end before gave = subst EndsBefore gave before

  -- all of them
  pub attempts_over : (most held made : ℕ) (last : Option CivilMinute) (ts : List MadeAttempt) (end : RoundEnd) (w v : Line) → AreAttempts made last ts end → Fit most held (all_batches last ts) →
      (end ≡ round_end.DiskFault → failed) → (0 < length ts → end ≡ round_end.OutOfMemory → short) → (end ≡ round_end.LinkFault → ⊥) → IsSound w → IsCalm w → console_talk f (all_said ts) w ≡ Some v → v.unseen ≡ None → Over made w ts end v
  attempts_over most held made last [] end w v (inl (zero_is, before)) fit disk memory link sound calm e un =
      let q : v ≡ w = sym (same_Some w v e) in
      record { each = q; gave_up = λ gave. absurd (none_before end before gave); spared = inr q; calm = λ z. subst IsCalm (sym q) calm }
  attempts_over most held made last [] end w v (inr (three, gave)) fit disk memory link sound calm e un =
      let q : v ≡ w = sym (same_Some w v e) in
      record { each = q; gave_up = λ z. (omega (arith, three), q); spared = inr q; calm = λ z. subst IsCalm (sym q) calm }
  attempts_over most held made last (t ∷ ts) end w v (less, tried, inl (none, more)) fit disk memory link sound calm e un =
      let m = talks_part f t.said (all_said ts) w v e in
      let b = failed_end t.end none in
      let one = one_over last t w m.0 tried b.0 sound calm m.1 (goes_unseen f (all_said ts) m.0 v m.2 un) in
      let harm : 0 < m.0.harmed - w.harmed = elim one.1 [
        | inl z ↦ z
        | inr z ↦ absurd (b.1 z)
      ] in
      let bs = batches last t.place t.taken in
      let rest = all_batches (stamp_after last t) ts in
      let parts = fit_parts most held bs rest (subst (λ (h : Handed). Fit most held (join h rest)) (went_on last t none) fit) in
      let q = attempts_over most (held + length (records_in bs)) (made + 1) (stamp_after last t) ts end m.0 v more parts.1
      disk (λ some. memory (omega arith)) link (sound_talk f ok t.said w m.0 m.1 sound) one.0 m.2 un in
      record {
        each = (m.0, m.1, inl harm, q.each);
        gave_up = λ gave. let z = q.gave_up gave in (omega (arith, z.0), (m.0, m.1, harm, z.1));
        spared = elim q.spared [
          | inl z ↦ inl z
          | inr z ↦ inr (m.0, m.1, harm, z)
        ];
        calm = q.calm;
      }
  attempts_over most held made last (t ∷ ts) end w v (less, tried, inr (ends, none)) fit disk memory link sound calm e un =
      let said : t.said ≡ t.said ++ all_said ts = rw none (sym (append-nil t.said)) in
      let one : all_batches last (t ∷ ts) ≡ batches_in last t = ap (λ (xs : List MadeAttempt). all_batches last (t ∷ xs)) none ∙ join_none (batches_in last t) in
      let fresh : t.end ≡ dump_end.Stale → ⊥ = λ is. stale_fits most held (batches_in last t) (subst (λ (h : Handed). Fit most held h) one fit) (last_in last t tried ∙ ap keeper_answer is) in
      subst (λ (xs : List MadeAttempt). Over made w (t ∷ xs) end v) (sym none)
      (last_over made last t end w v t.end refl ends tried fresh disk (memory (omega arith)) link sound calm (ap (λ x. console_talk f x w) said ∙ e) un)

  -- a whole round
  pub round_over : (most held : ℕ) (last : Option CivilMinute) (ts : List MadeAttempt) (end : RoundEnd) (w v : Line) → AreAttempts 0 last ts end → Fit most held (all_batches last ts) →
      (end ≡ round_end.DiskFault → failed) → (0 < length ts → end ≡ round_end.OutOfMemory → short) → (end ≡ round_end.LinkFault → ⊥) → IsSound w → IsCalm w → console_talk f (all_said ts) w ≡ Some v → v.unseen ≡ None → HarmTells failed short f w ts end v
  round_over most held last ts end w v attempts fit disk memory link sound calm e un =
      let q = attempts_over most held 0 last ts end w v attempts fit disk memory link sound calm e un in
      record { each = q.each; gave_up = λ gave. let z = q.gave_up gave in (omega (arith, z.0), z.1); spared = q.spared; calm = q.calm }

-- a session's round over a line in memory
pub round_law : {D : Type 0} (medium : Medium D) (rows : List Row) (end : RoundEnd) (old new : RoundHost Sim D) (report : Report) (w : Line) → (round : ServesRound sim_traffic medium rows end old new report) →
    AnswersRound sim_traffic medium end old new report.attempts → SimStandsFor old.link w → IsCalm w →
    (v : Line) × SimStandsFor new.link v × (v.unseen ≡ None → HarmTells (DiskFailed medium old new) (LinkShort old new) (fates_of old.link.fates) w round.tries end v)
round_law medium rows end old new report w round answers stands calm =
    let behind = round.adds.went.line w stands in (
      behind.line,
      behind.stands,
      λ un. round_over (fates_of old.link.fates) (fates_sound old.link.fates) (DiskFailed medium old new) (LinkShort old new) _ (length rows) (last_row_stamp rows) round.tries end w behind.line round.attempts round.stores.fit
          answers.disk_fault.rose (λ some short. answers.shortage.rose (short, (omega (arith, some, round.made)))) (λ fault. absurd (let z : Rose 0 0 = answers.fault.rose fault in omega (arith, z))) stands.sound calm behind.talks un,
    )
