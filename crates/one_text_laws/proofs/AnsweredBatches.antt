-- Batches that were answered as an archive with so many rows answers them.
use Rattle.std.proofs.Common.{ℕ, ◌≡◌, ◌+◌, ◌<◌, ◌≤◌, ◌⊎◌, Bool, true, List, length, Option, Some, None, refl, sym, subst, inl, inr, arith}
use Rattle.causes.specs.declared.stored.Stored.{Stored}
use Rattle.causes.specs.declared.stored.Stored.TheVariants as reply
use Rattle.dmpaft_pump.specs.Keeper.{Handed, Refusal, answer_for, join, one_batch}
use Rattle.dmpaft_pump.proofs.HandedBatches.{join_none}
use Rattle.station_session.specs.Batches.{Fit, kept_count, last_answer}
use Rattle.schedule_file.specs.declared.schedule.step.Stop.{Stop}
use Rattle.replay_laws.specs.Session.{ComesAt, NotPast}

-- a stop that comes later does not come here
not_here : (stop : Option Stop) (stored later : ℕ) → NotPast stop later → stored < later → ComesAt stop stored → ⊥
not_here None stored later before less comes = comes
not_here (Some s) stored later before less comes = omega (arith, before, less, comes)

module _ (most : ℕ) (stop : Option Stop) where
  -- the stop comes within the batch after so many, or the disk may fail at any
  abbrev pub MayFail : Bool → ℕ → Type 0
  MayFail fails stored = ComesAt stop stored ⊎ (fails ≡ true)

  -- what a batch is answered, so many stored before it in the round, and so many rows held
  abbrev pub IsAnswer : Bool → ℕ → ℕ → List (List ℕ) → Stored → Type 0
  IsAnswer fails stored held rows reply.Done = (held + length rows ≤ most) × (ComesAt stop stored → ⊥)
  IsAnswer fails stored held rows reply.Full = most < held + length rows
  IsAnswer fails stored held rows reply.Stale = ⊥
  IsAnswer fails stored held rows reply.DiskFault = (held + length rows ≤ most) × MayFail fails stored

  -- each of these batches was answered so
  abbrev pub AreAnswered : Bool → ℕ → ℕ → Handed → Type 0
  AreAnswered fails stored held Handed.Nothing = Unit {0}
  AreAnswered fails stored held (Handed.Kept rows more) =
      IsAnswer fails stored held rows reply.Done × AreAnswered fails (stored + 1) (held + length rows) more
  AreAnswered fails stored held (Handed.Refused rows why) = IsAnswer fails stored held rows (answer_for why)

  pub first_answer : (fails : Bool) (stored held : ℕ) (rows : List (List ℕ)) (k : Stored) (later : Handed)
      → AreAnswered fails stored held (join (one_batch k rows) later) → IsAnswer fails stored held rows k
  first_answer fails stored held rows reply.Done later h = h.0
  first_answer fails stored held rows reply.Full later h = h
  first_answer fails stored held rows reply.Stale later h = h
  first_answer fails stored held rows reply.DiskFault later h = h

  pub one_answer : (fails : Bool) (stored held : ℕ) (rows : List (List ℕ)) (k : Stored)
      → AreAnswered fails stored held (one_batch k rows) → IsAnswer fails stored held rows k
  one_answer fails stored held rows k h = first_answer fails stored held rows k Handed.Nothing
      (subst (AreAnswered fails stored held) (sym (join_none (one_batch k rows))) h)

  -- a batch that is kept has no other answer than that, unless the disk failed
  pub done_too : (fails falls : Bool) (stored held : ℕ) (rows : List (List ℕ)) (k : Stored) → IsAnswer fails stored held rows k
      → IsAnswer falls stored held rows reply.Done → (k ≡ reply.Done) ⊎ (fails ≡ true)
  done_too fails falls stored held rows reply.Done one two = inl refl
  done_too fails falls stored held rows reply.Full one two = absurd (omega (arith, one, two.0))
  done_too fails falls stored held rows reply.Stale one two = absurd one
  done_too fails falls stored held rows reply.DiskFault (room, inl comes) two = absurd (two.1 comes)
  done_too fails falls stored held rows reply.DiskFault (room, inr fault) two = inr fault

  -- a batch has one answer, unless the disk failed
  pub answers_meet : (fails falls : Bool) (stored held : ℕ) (rows : List (List ℕ)) (k l : Stored) → IsAnswer fails stored held rows k
      → IsAnswer falls stored held rows l → (k ≡ l) ⊎ (fails ≡ true) ⊎ (falls ≡ true)
  answers_meet fails falls stored held rows reply.Done reply.Done one two = inl refl
  answers_meet fails falls stored held rows reply.Done reply.Full one two = absurd (omega (arith, one.0, two))
  answers_meet fails falls stored held rows reply.Done reply.Stale one two = absurd two
  answers_meet fails falls stored held rows reply.Done reply.DiskFault one (room, inl comes) = absurd (one.1 comes)
  answers_meet fails falls stored held rows reply.Done reply.DiskFault one (room, inr fault) = inr (inr fault)
  answers_meet fails falls stored held rows reply.Full reply.Done one two = absurd (omega (arith, one, two.0))
  answers_meet fails falls stored held rows reply.Full reply.Full one two = inl refl
  answers_meet fails falls stored held rows reply.Full reply.Stale one two = absurd two
  answers_meet fails falls stored held rows reply.Full reply.DiskFault one two = absurd (omega (arith, one, two.0))
  answers_meet fails falls stored held rows reply.Stale l one two = absurd one
  answers_meet fails falls stored held rows reply.DiskFault reply.Done (room, inl comes) two = absurd (two.1 comes)
  answers_meet fails falls stored held rows reply.DiskFault reply.Done (room, inr fault) two = inr (inl fault)
  answers_meet fails falls stored held rows reply.DiskFault reply.Full one two = absurd (omega (arith, one.0, two))
  answers_meet fails falls stored held rows reply.DiskFault reply.Stale one two = absurd two
  answers_meet fails falls stored held rows reply.DiskFault reply.DiskFault one two = inl refl

  -- batches that fit were answered so, if no stop comes within those that were kept and a fault is the stop
  pub are_answered : (fails : Bool) (stored held : ℕ) (h : Handed) → Fit most held h → NotPast stop (stored + kept_count h)
      → (last_answer h ≡ reply.DiskFault → MayFail fails (stored + kept_count h)) → AreAnswered fails stored held h
  are_answered fails stored held Handed.Nothing fit before fault = tt
  are_answered fails stored held (Handed.Kept rows more) fit before fault =
      let same : stored + kept_count (Handed.Kept rows more) ≡ stored + 1 + kept_count more = omega arith in (
        (fit.0, not_here stop stored (stored + kept_count (Handed.Kept rows more)) before (omega arith)),
        are_answered fails (stored + 1) (held + length rows) more fit.1 (subst (NotPast stop) same before)
            (λ e. subst (MayFail fails) same (fault e)),
      )
  are_answered fails stored held (Handed.Refused rows Refusal.Full) fit before fault = fit
  are_answered fails stored held (Handed.Refused rows Refusal.Stale) fit before fault = fit
  are_answered fails stored held (Handed.Refused rows Refusal.DiskFault) fit before fault =
      let same : stored + 0 ≡ stored = omega arith in (fit, subst (MayFail fails) same (fault refl))
