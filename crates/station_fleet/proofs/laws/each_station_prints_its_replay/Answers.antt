use Rattle.station_fleet.proofs.OwnTexts.{each_replays, over_replays}
use Rattle.station_fleet.proofs.laws.each_station_prints_its_replay.Goals as goal

pub returns : goal.returns
returns g c = record {
  over = λ old new before after log settings course along uncut begin open_all.
      over_replays g.K.Sink.outlet settings course old new before after log along begin uncut open_all;
  all = λ seed old new before after end settings course ran over begin open_all.
      each_replays g.K.Sink.outlet settings course seed old new before after end ran over begin open_all;
}
