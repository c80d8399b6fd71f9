use Rattle.line_laws.proofs.Between.{calm_waited}
use Rattle.line_laws.proofs.calm_laws.what_keeps_a_line_calm.Goals as goal

pub returns-clause-fell_due : goal.returns-clause-fell_due
returns-clause-fell_due c records w k = calm_waited records w k
