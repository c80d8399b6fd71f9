use Rattle.std.proofs.Common.{◌≢◌, length, sym, arith}
use Rattle.station_base.proofs.StampTexts.{stamp_of_text-other}
use Rattle.station_base.proofs.stamp.Stamp.from_text.Goals as goal

pub returns-then-text-ne-TEXT_SIZE-clause-exact : goal.returns-then-text-ne-TEXT_SIZE-clause-exact
returns-then-text-ne-TEXT_SIZE-clause-exact c =
    let other : length c.args.text.now ≢ 16 = omega arith in
    sym (stamp_of_text-other c.args.text.now other)
