-- What a station tells of its turns.
use Rattle.fleet.specs.declared.member.MemberTurn.{MemberTurn}
use Rattle.fleet.specs.declared.member.MemberTurn.TheVariants as member
use Rattle.fleet.specs.MemberTurns.{Turning}
use Rattle.schedule_replay.specs.declared.turns.ReplayTurn.{ReplayTurn}
use Rattle.schedule_replay.specs.declared.turns.ReplayTurn.TheVariants as replay
use Rattle.schedule_replay.specs.Replaying.{MayTurn, run_turns_left}
use Rattle.station_fleet.specs.declared.station.Station.{Station}
use Rattle.station_fleet.specs.Outcomes.{StationTurned}
use Rattle.station_fleet.specs.TurnLaws.{turned_joins, turned_none, turned_wider}

-- the answer of a station, by that of its run
abbrev pub member_answer : ReplayTurn → MemberTurn
member_answer replay.More = member.More
member_answer replay.Ended = member.Ended
member_answer replay.Unseen = member.Unseen
member_answer replay.WriteFault = member.WriteFault
member_answer replay.OutOfMemory = member.OutOfMemory

-- what a station tells of its turns: it may take one if its run may, and has as many left
abbrev pub station_turning : Turning Station
station_turning = record {
  may_turn = λ s. MayTurn s.schedule.steps.items s.line s.disk s.run;
  left = λ s. run_turns_left s.schedule.steps.items s.run;
  turned = StationTurned;
  turned_none = turned_none;
  turned_joins = turned_joins;
  turned_wider = turned_wider;
}
