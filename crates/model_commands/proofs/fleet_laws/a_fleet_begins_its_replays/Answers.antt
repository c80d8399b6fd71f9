use Rattle.run_output.specs.Outside.{means}
use Rattle.model_commands.proofs.FleetReplays.{fleet_begins}
use Rattle.model_commands.proofs.FleetTexts.{begins}
use Rattle.model_commands.proofs.fleet_laws.a_fleet_begins_its_replays.Goals as goal

pub returns : goal.returns
returns g c = record {
  stations = λ settings schedules stations seed old new ended period fresh did.
      begins g.K.Sink.outlet settings seed schedules stations old new ended period fresh did;
  command = λ names old new ended did.
      fleet_begins (means g.F.Files.shelf g.K.Sink.outlet g.L.Link.traffic g.D.Disk.medium) names old new ended did;
}
