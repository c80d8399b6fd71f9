use Rattle.std.proofs.Common.{◌≡◌, ◌<◌, ◌≤◌, ◌+◌, ◌-◌, None, length}
use Rattle.packed_rows.specs.Adding.{AreLimited, ArePrintable}
use Rattle.packed_rows.specs.Rising.{RowsRiseAfter}
use Rattle.archive_import.specs.Importing.{later_rows}
use Rattle.archive_import.specs.Texts.{AreLinesOfRows, rows_ahead, rows_to_come}
use Rattle.archive_import.proofs.passing.pass_over.Given as goal

-- the rows so far are not later, and with a first row that is left all that are left are
abbrev pub invariant-loop-left : goal.invariant-loop-left
invariant-loop-left l = record {
  rows : AreLinesOfRows l.lines;
  left : l.left ≡ length (rows_to_come l.first.items l.lines);
  fewer : l.left ≤ l.fn.count;
  rising : RowsRiseAfter None (rows_to_come l.first.items l.lines);
  later : later_rows l.fn.last (rows_ahead l.fn.lines) ≡ later_rows l.fn.last (rows_to_come l.first.items l.lines);
  few : length l.first.items ≤ 1;
  found : 0 < length l.first.items → (later_rows l.fn.last (rows_to_come l.first.items l.lines) ≡ rows_to_come l.first.items l.lines)
      × RowsRiseAfter l.fn.last (rows_to_come l.first.items l.lines);
  printable : ArePrintable l.first.items;
  limited : AreLimited l.first.items;
}

abbrev pub decreases-loop-left : goal.decreases-loop-left
decreases-loop-left l = l.left + (1 - length l.first.items)
