use Rattle.std.proofs.Common.{◌<◌, refl, arith}
use Rattle.std.specs.Prelude.{slice_index}
use Rattle.console_tasks.proofs.Clocks.{clock_good, clock_bad}
use Rattle.console_tasks.proofs.time.read_clock.Goals as goal

pub returns-then-is_civil-clause-judged : goal.returns-then-is_civil-clause-judged
returns-then-is_civil-clause-judged c =
    let below : slice_index c.args.bytes.now 5 < 256 = omega (arith, c.type_inv.bytes 5) in
    clock_good c.args.bytes.now c.time_shown-time.result c.is_civil.result c.requires below c.time_shown-time.ensures c.is_civil.ensures c.if-is_civil.true

pub returns-else-is_civil-clause-judged : goal.returns-else-is_civil-clause-judged
returns-else-is_civil-clause-judged c =
    let below : slice_index c.args.bytes.now 5 < 256 = omega (arith, c.type_inv.bytes 5) in
    (refl, clock_bad c.args.bytes.now c.time_shown-time.result c.is_civil.result below c.time_shown-time.ensures c.is_civil.ensures c.if-is_civil.false)
