use Rattle.std.proofs.Common.{◌≡◌, ◌≤◌, ◌-◌, drop, length, take}
use Rattle.packed_rows.specs.Adding.{AreLimited, ArePrintable}
use Rattle.archive_import.specs.Texts.{AreLinesOfRows, rows_ahead, rows_to_come}
use Rattle.archive_import.proofs.batch.fill_batch.Given as goal

-- the batch has the first rows, and the others are left
abbrev pub invariant-loop-batch : goal.invariant-loop-batch
invariant-loop-batch l = record {
  few : length l.batch.items ≤ 5;
  rows : AreLinesOfRows l.lines;
  batch : l.batch.items ≡ take (length l.batch.items) (rows_to_come l.fn.batch.items l.fn.lines);
  left : rows_ahead l.lines ≡ drop (length l.batch.items) (rows_to_come l.fn.batch.items l.fn.lines);
  printable : ArePrintable l.batch.items;
  limited : AreLimited l.batch.items;
}

abbrev pub decreases-loop-batch : goal.decreases-loop-batch
decreases-loop-batch l = 5 - length l.batch.items
