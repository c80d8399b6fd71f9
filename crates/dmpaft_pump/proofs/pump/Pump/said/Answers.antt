use Rattle.std.proofs.Common.{[], sym, subst}
use Rattle.serial_link.specs.Talk.{message}
use Rattle.dmpaft_pump.specs.declared.stage.Stage.{Stage}
use Rattle.dmpaft_pump.specs.Pump.{pump_from}
use Rattle.dmpaft_pump.specs.Shown.{ShowsAt, said_at}
use Rattle.dmpaft_pump.specs.Stages.{told_stage}
use Rattle.dmpaft_pump.proofs.Steps.{said_shows}
use Rattle.dmpaft_pump.proofs.pump.Pump.said.Goals as goal

pub returns-clause-shows : goal.returns-clause-shows
returns-clause-shows c = λ start after s h.
    let k = subst (λ (y : Stage). ShowsAt y start after s c.args.self.now) c.in-Saying.is h in
    let pump = c.args.self.now in
    subst (λ (y : Stage). ShowsAt y start after (pump_from after s (message (said_at after pump.stage)) []) (record pump { stage = y })) (sym c.stage_after-self.ensures)
    (subst (λ (y : Stage). ShowsAt (told_stage c.in-Saying.phase) start after (pump_from after s (message (said_at after y)) []) (record pump { stage = told_stage c.in-Saying.phase })) (sym c.in-Saying.is)
    (said_shows start after c.in-Saying.phase s pump k))
