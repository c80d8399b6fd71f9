use Rattle.std.proofs.Common.{refl}
use Rattle.row_text.specs.RowsOfText.{rows_of_text}
use Rattle.row_text.proofs.text_rows.TextRows.of.Goals as goal

pub returns-clause-rows : goal.returns-clause-rows
unfolding rows_of_text
returns-clause-rows c = refl
