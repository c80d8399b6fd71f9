use Rattle.promise_laws.proofs.Found.{refused}
use Rattle.promise_laws.proofs.RefusedRows.{none_acknowledged_lost}
use Rattle.promise_laws.specs.Rows.{HasLostAcknowledged}
use Rattle.promise_laws.proofs.row_laws.no_acknowledged_row_is_gone.Goals as goal

pub returns : goal.returns
returns c = λ settings records. refused settings records HasLostAcknowledged (none_acknowledged_lost settings records)
