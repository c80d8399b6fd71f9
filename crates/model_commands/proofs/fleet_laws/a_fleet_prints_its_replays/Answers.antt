use Rattle.run_output.specs.Outside.{means}
use Rattle.model_commands.proofs.FleetReplays.{fleet_prints}
use Rattle.model_commands.proofs.FleetTexts.{prints, same_lines}
use Rattle.model_commands.proofs.fleet_laws.a_fleet_prints_its_replays.Goals as goal

pub returns : goal.returns
returns g c = record {
  stations = λ settings schedules stations seed old new ended period fresh did told.
      prints g.K.Sink.outlet g.S.Sink.outlet settings seed schedules stations old new ended period fresh did told;
  command = λ names old new ended did told.
      fleet_prints (means g.F.Files.shelf g.K.Sink.outlet g.L.Link.traffic g.D.Disk.medium) g.S.Sink.outlet names old new ended did told;
  any_seed = same_lines;
}
