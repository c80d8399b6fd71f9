use Rattle.std.proofs.Common.{◌≡◌, ◌+◌, ◌≤◌, length}
use Rattle.row_text.specs.RowsOfText.{row_count_of, rows_of_text}
use Rattle.row_text.specs.RowsLeft.{rows_left, bytes_left}
use Rattle.row_text.proofs.CountedRows.{counted}
use Rattle.row_text.proofs.counting.count_rows.Given as goal

-- the rows that are left, with those before, are the text's
abbrev pub invariant-loop-read : goal.invariant-loop-read
invariant-loop-read l = record {
  same : counted l.count (rows_left l.rows) ≡ row_count_of (rows_of_text l.fn.text);
  few : l.count + bytes_left l.rows ≤ length l.fn.text;
}

abbrev pub decreases-loop-read : goal.decreases-loop-read
decreases-loop-read l = bytes_left l.rows
