-- How the turns of all stations ended.
use Rattle.std.proofs.Common.{ℕ, ◌≡◌, ◌≢◌, List, [], ◌∷◌, ◌++◌, Some, None, refl, sym, ap, subst, ◌∙◌, arith}
use Rattle.causes.specs.Cause.{Cause, Rose}
use Rattle.station_io.specs.Sink.{Outlet}
use Rattle.draws.specs.Draws.{next_draw}
use Rattle.fleet.specs.declared.member.MemberTurn.TheVariants.{WriteFault, OutOfMemory}
use Rattle.fleet.specs.declared.run.FleetEnd.{FleetEnd}
use Rattle.fleet.specs.declared.run.FleetEnd.TheVariants as fleet
use Rattle.fleet.specs.Crew.{Crew, OneTurn}
use Rattle.fleet.specs.FleetEnds.{FleetEndsAs, RunsFleet}
use Rattle.fleet.specs.Log.{Along, AreDrawn}
use Rattle.fleet.specs.MemberTurns.{Turning}
use Rattle.fleet.specs.OpenStations.{chosen, least_unseen, open_from}
use Rattle.fleet.specs.StationLines.{AreUncutBeforeLast}
use Rattle.fleet.specs.TurnText.{TurnEntry}
use Rattle.fleet.proofs.LogSteps.{SoFar, all_ended, along_more, drawn_more, drawn_next, uncut_ahead, uncut_before}
use Rattle.fleet.proofs.LogText.{text_along, wrote_along}

module _ {M K : Type 0} (turning : Turning M) (outlet : Outlet K) (seed : ℕ) (old : Crew M) (before : K) where
  -- turns that were drawn, with their end
  ran : (log : List (TurnEntry K)) (end : FleetEnd) (new : Crew M) (after : K) → Along turning outlet old before log new after
      → AreDrawn seed old.last log → AreUncutBeforeLast log → FleetEndsAs end log new.last
      → Cause (outlet.faults before) (outlet.faults after) (end ≡ fleet.WriteFault)
      → (end ≢ fleet.WriteFault → outlet.faults after ≡ outlet.faults before)
      → RunsFleet turning outlet seed old before end new after
  ran log end new after along drawn uncut ends cause still =
      let text = text_along turning outlet old new before after log along in
      record {
        log = log;
        turns = along;
        drawn = drawn;
        uncut = uncut;
        text = text.0;
        texts = text.1;
        wrote = wrote_along turning outlet old new before after log text.0 along text.1;
        ends = ends;
        cause = cause;
        still = still;
      }

  module _ (number turns switches : ℕ) (station : _) (now : Crew M) (out : K)
      (so : SoFar turning outlet seed old before number turns switches station now out) where
    -- one more turn, with which the run ended so
    cut : (end : FleetEnd) (e : TurnEntry K) (new : Crew M) → OneTurn turning outlet now e new → e.before ≡ out
        → e.station ≡ chosen (next_draw number) (open_from 1 now.last) → FleetEndsAs end (so.log ++ e ∷ []) new.last
        → Cause (outlet.faults before) (outlet.faults e.after) (end ≡ fleet.WriteFault)
        → (end ≢ fleet.WriteFault → outlet.faults e.after ≡ outlet.faults before)
        → RunsFleet turning outlet seed old before end new e.after
    cut end e new one from at ends cause still = ran (so.log ++ e ∷ []) end new e.after
        (along_more turning outlet old now new before out so.log e so.along one from)
        (drawn_more seed old.last so.log e so.drawn
        (drawn_next turning outlet seed old before number turns switches station now out e.station so at))
        (uncut_ahead so.log e so.whole) ends cause still

    pub cut_by_fault : (e : TurnEntry K) (new : Crew M) → OneTurn turning outlet now e new → e.before ≡ out
        → e.station ≡ chosen (next_draw number) (open_from 1 now.last) → e.answer ≡ WriteFault
        → RunsFleet turning outlet seed old before fleet.WriteFault new e.after
    cut_by_fault e new one from at is =
        let faults : outlet.faults e.before ≡ outlet.faults before = ap outlet.faults from ∙ so.faults in
        cut fleet.WriteFault e new one from at (so.log, e, refl, is)
        (record {
          never_falls = omega (arith, faults, one.cause.never_falls);
          rose = λ _. subst (λ (n : ℕ). Rose n (outlet.faults e.after)) faults (one.cause.rose is);
        })
        (λ apart. absurd (apart refl))

    pub cut_by_memory : (e : TurnEntry K) (new : Crew M) → OneTurn turning outlet now e new → e.before ≡ out
        → e.station ≡ chosen (next_draw number) (open_from 1 now.last) → e.answer ≡ OutOfMemory
        → RunsFleet turning outlet seed old before fleet.OutOfMemory new e.after
    cut_by_memory e new one from at is =
        let fits : e.answer ≢ WriteFault = λ w. absurd (let bad : OutOfMemory ≡ WriteFault = sym is ∙ w in cc) in
        let faults : outlet.faults e.after ≡ outlet.faults before = one.still fits ∙ (ap outlet.faults from ∙ so.faults) in
        cut fleet.OutOfMemory e new one from at (so.log, e, refl, is)
        (record {
          never_falls = omega (arith, faults);
          rose = λ w. absurd (let bad : fleet.OutOfMemory ≡ fleet.WriteFault = w in cc);
        })
        (λ _. faults)

    -- no turn is left
    whole : (end : FleetEnd) → end ≢ fleet.WriteFault → FleetEndsAs end so.log now.last
        → RunsFleet turning outlet seed old before end now out
    whole end fits ends = ran so.log end now out so.along so.drawn (uncut_before so.log so.whole) ends
        (record { never_falls = omega (arith, so.faults); rose = λ w. absurd (fits w) }) (λ _. so.faults)

    pub all_done : open_from 1 now.last ≡ [] → least_unseen 1 now.last ≡ None
        → RunsFleet turning outlet seed old before (fleet.Done turns switches) now out
    all_done none seen = whole (fleet.Done turns switches)
        (λ w. absurd (let bad : fleet.Done turns switches ≡ fleet.WriteFault = w in cc))
        (record {
          turns_are = so.turns_are;
          switches_are = so.switches_are;
          ended = all_ended now.last none seen so.uncut;
          uncut = so.whole;
        })

    pub one_unseen : (n : ℕ) → open_from 1 now.last ≡ [] → least_unseen 1 now.last ≡ Some n
        → RunsFleet turning outlet seed old before (fleet.Unseen n) now out
    one_unseen n none seen = whole (fleet.Unseen n)
        (λ w. absurd (let bad : fleet.Unseen n ≡ fleet.WriteFault = w in cc))
        (record { none_open = none; least = seen; last_uncut = so.uncut; uncut = so.whole })
