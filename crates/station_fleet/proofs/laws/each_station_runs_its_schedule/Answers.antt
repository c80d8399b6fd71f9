use Rattle.station_fleet.proofs.OwnRuns.{own_runs}
use Rattle.station_fleet.proofs.laws.each_station_runs_its_schedule.Goals as goal

pub returns : goal.returns
returns g c old new before after log settings course along uncut begin =
    own_runs g.K.Sink.outlet settings course old new before after log along begin uncut
