use Rattle.station_sim.proofs.UnseenTalk.{talk_names, talk_none, talk_stays}
use Rattle.station_sim.proofs.unseen_laws.unseen_deliveries.Goals as goal

pub returns : goal.returns
returns c = record {
  named = λ f talk w v which none t is. talk_names f talk w v which none t is;
  none = λ f talk w v t none which. talk_none f talk w v t none which;
  stays = λ f talk w v which t is. talk_stays f talk w v which t is;
}
