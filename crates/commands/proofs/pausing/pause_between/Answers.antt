use Rattle.std.proofs.Common.{arith}
use Rattle.commands.specs.StayRun.{stayed_line}
use Rattle.commands.proofs.Pauses.{pause_left_out, pause_made}
use Rattle.commands.proofs.pausing.pause_between.Goals as goal

pub returns : goal.returns
returns g c =
    pause_made g.L.Link.traffic c.args.waits c.args.left (stayed_line c.args.made) c.args.link.now c.pause.new.link c.pause.result
    (omega (arith, c.if-left-eq0.false)) c.pause.ensures

pub returns-then-left-eq0 : goal.returns-then-left-eq0
returns-then-left-eq0 g c = pause_left_out g.L.Link.traffic c.args.waits c.args.left (stayed_line c.args.made) c.args.link.now c.if-left-eq0.true
