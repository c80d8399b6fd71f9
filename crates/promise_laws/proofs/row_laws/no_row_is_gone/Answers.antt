use Rattle.promise_laws.proofs.Found.{refused}
use Rattle.promise_laws.proofs.RefusedRows.{none_lost}
use Rattle.promise_laws.specs.Rows.{HasLostRows}
use Rattle.promise_laws.proofs.row_laws.no_row_is_gone.Goals as goal

pub returns : goal.returns
returns c = λ settings records. refused settings records HasLostRows (none_lost settings records)
