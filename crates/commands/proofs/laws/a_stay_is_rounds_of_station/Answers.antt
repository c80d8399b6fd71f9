use Rattle.run_output.specs.Outside.{means}
use Rattle.commands.proofs.StationRounds.{stay_is_rounds}
use Rattle.commands.proofs.laws.a_stay_is_rounds_of_station.Goals as goal

pub returns : goal.returns
returns g c = stay_is_rounds (means g.F.Files.shelf g.K.Sink.outlet g.L.Link.traffic g.D.Disk.medium)
