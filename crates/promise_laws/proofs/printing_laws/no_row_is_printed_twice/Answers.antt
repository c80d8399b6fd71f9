use Rattle.promise_laws.proofs.Found.{refused}
use Rattle.promise_laws.proofs.RefusedPrints.{none_printed_twice}
use Rattle.promise_laws.specs.Printing.{PrintsRowTwice}
use Rattle.promise_laws.proofs.printing_laws.no_row_is_printed_twice.Goals as goal

pub returns : goal.returns
returns c = λ settings records. refused settings records PrintsRowTwice (none_printed_twice settings records)
