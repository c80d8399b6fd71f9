use Rattle.station_fleet.proofs.OwnTexts.{each_begins}
use Rattle.station_fleet.proofs.laws.each_station_begins_its_schedule.Goals as goal

pub returns : goal.returns
returns g c seed old new before after end settings course ran begin open_all =
    each_begins g.K.Sink.outlet settings course seed old new before after end ran begin open_all
