-- Where a pump stands once the words of a part are said.
use Rattle.dmpaft_pump.specs.declared.phase.Phase.{Phase}
use Rattle.dmpaft_pump.specs.declared.phase.Phase.TheVariants as phase
use Rattle.dmpaft_pump.specs.declared.pump_end.PumpEnd.TheVariants as pump_end
use Rattle.dmpaft_pump.specs.declared.stage.Stage.{Stage}
use Rattle.dmpaft_pump.specs.declared.stage.Stage.TheVariants as stage

-- it hears, but after the last ones, which end the attempt
abbrev pub told_stage : Phase → Stage
told_stage phase.Settling = stage.Hearing phase.Settling
told_stage (phase.Waking left) = stage.Hearing (phase.Waking left)
told_stage phase.Calling = stage.Hearing phase.Calling
told_stage phase.Heading = stage.Hearing phase.Heading
told_stage (phase.Asking more left said) = stage.Hearing (phase.Asking more left said)
told_stage (phase.Resettling more left said) = stage.Hearing (phase.Resettling more left said)
told_stage phase.Acking = stage.Ended pump_end.Whole
told_stage (phase.GivingUp trouble) = stage.Ended (pump_end.Failed trouble)
