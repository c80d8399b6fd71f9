use Rattle.std.proofs.Common.{arith}
use Rattle.query_service.proofs.HeardLines.{hold_full, hold_more}
use Rattle.query_service.proofs.service.hold.Goals as goal

pub returns-then-len-lt-HELD : goal.returns-then-len-lt-HELD
returns-then-len-lt-HELD c begun held =
    hold_more c.args.line.now.items _ begun c.args.byte (omega (arith, c.if-len-lt-HELD.true, c.len.ensures.value)) c.push.ensures.items held

pub returns-else-len-lt-HELD : goal.returns-else-len-lt-HELD
returns-else-len-lt-HELD c begun held =
    hold_full c.args.line.now.items begun c.args.byte (omega (arith, c.if-len-lt-HELD.false, c.len.ensures.value)) held
