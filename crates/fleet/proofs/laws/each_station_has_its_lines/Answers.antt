use Rattle.fleet.proofs.LogText.{wrote_along}
use Rattle.fleet.proofs.StationText.{together}
use Rattle.fleet.proofs.laws.each_station_has_its_lines.Goals as goal

pub returns : goal.returns
returns g c old new before after log texts along uncut written =
    let all = together g.K.Sink.outlet log texts uncut written in
    let wrote = wrote_along g.M.Member.turning g.K.Sink.outlet old new before after log all.text along all.are_texts in
    (all.text, all.are_texts, wrote, all.each)
