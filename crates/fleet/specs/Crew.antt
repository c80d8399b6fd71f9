-- Stations that take turns, and what one turn of one of them does.
use Rattle.std.specs.Prelude.{ℕ, ◌≡◌, ◌≢◌, ◌<◌, ◌≤◌, ◌-◌, List, [], ◌∷◌, length, slice_get, slice_index_or, Some}
use Rattle.std.proofs.Common.{set}
use Rattle.causes.specs.Cause.{Cause}
use Rattle.station_io.specs.Sink.{Outlet}
use Rattle.fleet.specs.declared.member.MemberTurn.{MemberTurn}
use Rattle.fleet.specs.declared.member.MemberTurn.TheVariants.{More, Ended, WriteFault}
use Rattle.fleet.specs.declared.fleet.Fleet.{Fleet}
use Rattle.fleet.specs.MemberTurns.{Turning}
use Rattle.fleet.specs.TurnText.{TurnEntry, WritesTurn}

-- the members, by the numbers of their stations less one, and the last answer of each station, which is More before its
-- first turn; the places behind the members have Ended
pub record Crew (M : Type 0) : Type 0 where
  pub members : List M
  pub last : List MemberTurn

-- the members of a fleet, and the last answer of each station
abbrev pub crew_of : {M : Type 0} → Fleet M → Crew M
crew_of fleet = record { members = fleet.members.items; last = fleet.last }

-- the last answer of a station
abbrev pub last_answer_of : {M : Type 0} → Crew M → ℕ → MemberTurn
last_answer_of crew station = slice_index_or crew.last (station - 1) Ended

-- the station, counted from 1, has not ended
pub record StationIsOpen {M : Type 0} (crew : Crew M) (station : ℕ) : Type 0 where
  pub from : 1 ≤ station
  pub to : station ≤ length crew.members
  pub more : last_answer_of crew station ≡ More

-- There are up to eight, each that has not ended may take a turn, and the places behind them have Ended.
pub record CrewIsReady {M : Type 0} (turning : Turning M) (crew : Crew M) : Type 0 where
  pub few : length crew.members ≤ 8
  pub size : length crew.last ≡ 8
  pub absent : (k : ℕ) → length crew.members ≤ k → slice_index_or crew.last k Ended ≡ Ended
  pub may_turn : (station : ℕ) (m : M) → slice_get crew.members (station - 1) ≡ Some m → StationIsOpen crew station
      → turning.may_turn m

-- One turn of a station that had not ended: its member turned, and some text was written, each line with the number of
-- the station. All other stations stay. A write fault is answered only where the sink's faults rose.
pub record OneTurn {M K : Type 0} (turning : Turning M) (outlet : Outlet K) (old : Crew M) (e : TurnEntry K)
    (new : Crew M) : Type 0 where
  pub is_open : StationIsOpen old e.station
  pub before : M
  pub after : M
  pub was : slice_get old.members (e.station - 1) ≡ Some before
  pub is : slice_get new.members (e.station - 1) ≡ Some after
  pub written : List ℕ
  pub writes : WritesTurn outlet e written
  pub turned : turning.turned before (e.answer ∷ []) (WritesTurn outlet e) after
  pub falls : e.answer ≡ More → turning.left after < turning.left before
  pub answered : last_answer_of new e.station ≡ e.answer
  pub as_many : length new.members ≡ length old.members
  pub others : (k : ℕ) → k ≢ e.station - 1 → slice_get new.members k ≡ slice_get old.members k
  pub answers : (k : ℕ) → k ≢ e.station - 1 → slice_index_or new.last k Ended ≡ slice_index_or old.last k Ended
  pub members : new.members ≡ set old.members (e.station - 1) after
  pub last : new.last ≡ set old.last (e.station - 1) e.answer
  pub cause : Cause (outlet.faults e.before) (outlet.faults e.after) (e.answer ≡ WriteFault)
  pub still : e.answer ≢ WriteFault → outlet.faults e.after ≡ outlet.faults e.before
