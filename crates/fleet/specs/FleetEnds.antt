-- How the turns of all stations end.
use Rattle.std.specs.Prelude.{ℕ, ◌≡◌, ◌≢◌, ◌≤◌, List, [], ◌∷◌, ◌++◌, length, slice_index_or, Some}
use Rattle.causes.specs.Cause.{Cause}
use Rattle.station_io.specs.Sink.{Outlet}
use Rattle.fleet.specs.declared.member.MemberTurn.{MemberTurn}
use Rattle.fleet.specs.declared.member.MemberTurn.TheVariants as member
use Rattle.fleet.specs.declared.run.FleetEnd.{FleetEnd}
use Rattle.fleet.specs.declared.run.FleetEnd.TheVariants as fleet
use Rattle.fleet.specs.Crew.{Crew, last_answer_of}
use Rattle.fleet.specs.Log.{Along, AreDrawn, IsUncut, switches_in}
use Rattle.fleet.specs.MemberTurns.{Turning}
use Rattle.fleet.specs.OpenStations.{least_unseen, open_from}
use Rattle.fleet.specs.StationLines.{AreUncut, AreUncutBeforeLast}
use Rattle.fleet.specs.TurnText.{AreTextsOf, TurnEntry}

-- the last turn gave this answer
abbrev pub FleetEndsWith : {K : Type 0} → MemberTurn → List (TurnEntry K) → Type 0
FleetEndsWith {K} answer log =
    (front : List (TurnEntry K)) × (e : TurnEntry K) × (log ≡ front ++ e ∷ []) × (e.answer ≡ answer)

-- each station's last answer is Ended
abbrev pub AllEnded : List MemberTurn → Type 0
AllEnded last = (k : ℕ) → slice_index_or last k member.Ended ≡ member.Ended

-- Each station has ended. So many turns were taken, and so many of them not by the station of the turn before.
pub record AllTurnsDone {K : Type 0} (turns switches : ℕ) (log : List (TurnEntry K)) (last : List MemberTurn)
    : Type 0 where
  pub turns_are : turns ≡ length log
  pub switches_are : switches ≡ switches_in log
  pub ended : AllEnded last
  pub uncut : AreUncut log

-- No station goes on, and this is the least that ended by a delivery that was unseen.
pub record LeastUnseen {K : Type 0} (station : ℕ) (log : List (TurnEntry K)) (last : List MemberTurn) : Type 0 where
  pub none_open : open_from 1 last ≡ []
  pub least : least_unseen 1 last ≡ Some station
  pub last_uncut : IsUncut last
  pub uncut : AreUncut log

-- what the end says of the turns, and of the last answers
abbrev pub FleetEndsAs : {K : Type 0} → FleetEnd → List (TurnEntry K) → List MemberTurn → Type 0
FleetEndsAs (fleet.Done turns switches) log last = AllTurnsDone turns switches log last
FleetEndsAs (fleet.Unseen station) log last = LeastUnseen station log last
FleetEndsAs fleet.WriteFault log last = FleetEndsWith member.WriteFault log
FleetEndsAs fleet.OutOfMemory log last = FleetEndsWith member.OutOfMemory log

-- The turns went to the stations that were drawn behind the seed, and what they wrote was written in their order. With
-- one that was cut off they end. A write fault is answered only where the sink's faults rose.
pub record RunsFleet {M K : Type 0} (turning : Turning M) (outlet : Outlet K) (seed : ℕ) (old : Crew M) (before : K)
    (end : FleetEnd) (new : Crew M) (after : K) : Type 0 where
  pub log : List (TurnEntry K)
  pub turns : Along turning outlet old before log new after
  pub drawn : AreDrawn seed old.last log
  pub uncut : AreUncutBeforeLast log
  pub text : List ℕ
  pub texts : AreTextsOf outlet log text
  pub wrote : outlet.wrote before text after
  pub ends : FleetEndsAs end log new.last
  pub cause : Cause (outlet.faults before) (outlet.faults after) (end ≡ fleet.WriteFault)
  pub still : end ≢ fleet.WriteFault → outlet.faults after ≡ outlet.faults before

-- The station is a member, and its last answer is Unseen.
pub record IsUnseenMember {M : Type 0} (crew : Crew M) (station : ℕ) : Type 0 where
  pub from : 1 ≤ station
  pub to : station ≤ length crew.members
  pub unseen : last_answer_of crew station ≡ member.Unseen
