use Rattle.std.proofs.Common.{List, ℕ, ap, ◌∙◌, ◌++◌, [], ◌∷◌}
use Rattle.std.specs.Prelude.{codes}
use Rattle.vantage_frames.specs.Ack.{ack}
use Rattle.commands.proofs.asking.set_clock.Goals as goal

pub returns : goal.returns
returns g c = record {
  answers = ack ∷ ack ∷ [];
  talks = c.set_time.ensures;
  given = λ done. c.push_bytes.ensures.bytes ∙ ap (λ (t : List ℕ). t ++ codes "time set\n") c.requires.empty;
}
