use Rattle.fleet.proofs.UnseenMember.{unseen_member}
use Rattle.fleet.proofs.laws.an_unseen_station_is_a_member.Goals as goal

pub returns : goal.returns
returns g c = unseen_member g.M.Member.turning g.K.Sink.outlet
