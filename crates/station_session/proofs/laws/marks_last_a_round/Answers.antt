use Rattle.station_session.proofs.RoundMarks.{marks_of_round}
use Rattle.station_session.proofs.laws.marks_last_a_round.Goals as goal

pub returns : goal.returns
returns g c = marks_of_round g.L.Link.traffic g.D.Disk.medium
