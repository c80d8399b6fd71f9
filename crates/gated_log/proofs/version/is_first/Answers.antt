use Rattle.std.proofs.Common.{◌∙◌}
use Rattle.gated_log.proofs.Marks.{first_by_bytes}
use Rattle.gated_log.proofs.version.is_first.Goals as goal

pub returns : goal.returns
returns c = c.eq.ensures ∙ first_by_bytes c.args.head.now c.told-head
