use Rattle.promise_laws.proofs.Found.{refused}
use Rattle.promise_laws.proofs.RefusedPrints.{none_left_out}
use Rattle.promise_laws.specs.Printing.{LeavesRowOut}
use Rattle.promise_laws.proofs.printing_laws.no_row_is_left_out.Goals as goal

pub returns : goal.returns
returns c = λ settings records. refused settings records LeavesRowOut (none_left_out settings records)
