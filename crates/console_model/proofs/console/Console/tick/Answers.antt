use Rattle.std.proofs.Common.{rules}
use Rattle.console_model.proofs.console.Console.tick.Goals as goal
use Rattle.console_model.proofs.console.Console.tick.Goals.{in-Command+else-is_empty, in-Overlong-1}

pub returns-after-self-eq-GIVES_UP : goal.returns-after-self-eq-GIVES_UP
returns-after-self-eq-GIVES_UP c = elim c.in-Command-2-1.branch [
  | in-Command+else-is_empty w ↦ search rules
  | in-Overlong-1 w ↦ search rules
]
