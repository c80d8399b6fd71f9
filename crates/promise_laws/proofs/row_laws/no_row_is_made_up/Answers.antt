use Rattle.promise_laws.proofs.Found.{refused}
use Rattle.promise_laws.proofs.RefusedRows.{none_made_up}
use Rattle.promise_laws.specs.Rows.{HasMadeUpRow}
use Rattle.promise_laws.proofs.row_laws.no_row_is_made_up.Goals as goal

pub returns : goal.returns
returns c = λ settings records. refused settings records (HasMadeUpRow settings records) (none_made_up settings records)
