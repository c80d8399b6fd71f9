use Rattle.station_sim.proofs.UnseenCounts.{happens_names}
use Rattle.station_sim.proofs.unseen_laws.unseen_replies.Goals as goal

pub returns : goal.returns
returns c = λ f o w. happens_names f o w
