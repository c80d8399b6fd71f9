use Rattle.promise_laws.proofs.Found.{refused}
use Rattle.promise_laws.proofs.RefusedRows.{none_twice}
use Rattle.promise_laws.specs.Rows.{HasStampTwice}
use Rattle.promise_laws.proofs.row_laws.no_stamp_comes_twice.Goals as goal

pub returns : goal.returns
returns c = λ settings records. refused settings records HasStampTwice (none_twice settings records)
