use Rattle.std.proofs.Common.{sym, ◌∙◌, ap, subst, Option}
use Rattle.station_base.specs.CivilMinute.{CivilMinute}
use Rattle.dmpaft_pump.specs.declared.stage.Stage.TheVariants as stage
use Rattle.dmpaft_pump.specs.declared.stage.Stage.{Stage}
use Rattle.dmpaft_pump.specs.Shown.{ShowsAt, said_at}
use Rattle.dmpaft_pump.proofs.pump.Pump.action.Goals as goal

pub returns-in-Saying-clause-allows : goal.returns-in-Saying-clause-allows
returns-in-Saying-clause-allows c = λ start after s h.
    let k = subst (λ (y : Stage). ShowsAt y start after s c.args.self.now) c.in-Saying.is h in
    (c.words.ensures.words ∙ ap (λ (y : Option CivilMinute). said_at y (stage.Saying c.in-Saying.phase)) k.counts.tallied.asked ∙ ap (λ (y : Stage). said_at after y) (sym c.in-Saying.is), c.words.ensures.some k.speaks)
