use Rattle.std.proofs.Common.{ap, ◌∙◌, arith}
use Rattle.row_text.specs.RowsOfText.{rows_of_text}
use Rattle.row_text.proofs.CountedRows.{counted, count_begun}
use Rattle.row_text.proofs.counting.count_rows.Goals as goal

pub loop-read-init : goal.loop-read-init
loop-read-init c = record {
  same = ap (counted 0) c.of-rows.ensures.rows ∙ count_begun (rows_of_text c.args.text.now);
  few = omega (arith, c.of-rows.ensures.bytes);
}
