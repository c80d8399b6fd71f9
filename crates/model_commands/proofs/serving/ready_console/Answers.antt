use Rattle.model_commands.proofs.Readied.{same_ready}
use Rattle.model_commands.proofs.serving.ready_console.Goals as goal

pub returns-clause-ready : goal.returns-clause-ready
returns-clause-ready c = rw (c.period-2.ensures, c.steps.ensures, c.in-Ok.ensures, c.period.ensures, c.blank_packet.ensures, same_ready _ _ _ c.requires.ranges)
    at (c.make_ready.ensures _ c.in-Ok-new.ensures)
