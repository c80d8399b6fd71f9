use Rattle.std.proofs.Common.{refl, ◌∙◌, [], ◌∷◌}
use Rattle.vantage_frames.specs.Ack.{ack}
use Rattle.console_tasks.specs.Exchange.{ack_frame}
use Rattle.commands.proofs.asking.change_period.Goals as goal

pub returns : goal.returns
returns g c = record {
  answers = ack ∷ ack_frame (c.args.period ∷ []) ∷ [];
  talks = c.set_period.ensures;
  given = λ done. c.push_numbered.ensures ∙ rw (c.requires, c.minutes.ensures.minutes) refl;
}
