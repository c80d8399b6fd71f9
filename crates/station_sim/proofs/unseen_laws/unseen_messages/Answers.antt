use Rattle.station_sim.proofs.UnseenCounts.{counted_names, sent_named, sent_only}
use Rattle.station_sim.proofs.unseen_laws.unseen_messages.Goals as goal

pub returns : goal.returns
returns c = record {
  counted = λ f message w. counted_names f message w;
  named = λ f message w none so. sent_named f message w none so;
  only = λ f message w none is. sent_only f message w none is;
}
