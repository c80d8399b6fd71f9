use Rattle.station_session.proofs.RoundBounds.{round_is_bounded}
use Rattle.station_session.proofs.laws.a_round_is_bounded.Goals as goal

pub returns-clause-bounded : goal.returns-clause-bounded
returns-clause-bounded g c = round_is_bounded g.L.Link.traffic g.D.Disk.medium
