use Rattle.std.proofs.Common.{◌≡◌, ◌++◌}
use Rattle.std.specs.List.{AllZip}
use Rattle.std.specs.Vec.Iter.{into_iter_items}
use Rattle.model_commands.specs.FleetRun.{IsNewStation}
use Rattle.model_commands.proofs.fleet_run.make_stations.Given as goal

-- the stations of the schedules so far
abbrev pub invariant-loop-schedule : goal.invariant-loop-schedule
invariant-loop-schedule l = record {
  made : AllZip (IsNewStation l.settings) l.yielded l.stations.items;
  rest : l.yielded ++ into_iter_items l.schedule-iterator ≡ l.fn.schedules.items;
}
