use Rattle.std.proofs.Common.{◌≡◌, ◌<◌, ◌≤◌, ◌+◌, ◌-◌, ◌*◌, ◌++◌, List, false, true, length, take, drop}
use Rattle.disk_model.specs.Disk.{LeavesOnly}
use Rattle.station_base.specs.Limits.{most_rows}
use Rattle.station_base.specs.declared.row.Row.{Row}
use Rattle.packed_rows.specs.Adding.{AreLimited, ArePrintable}
use Rattle.packed_rows.specs.Rising.{rows_rise}
use Rattle.weather_book.specs.Book.{BookStandsFor, book_is_stale, last_stamp_of, len_of, most_rows_of}
use Rattle.weather_book.specs.Stands.{StandsOn}
use Rattle.batch_adding.proofs.Batches.{AddedSo}
use Rattle.batch_adding.specs.Adding.{HasSome, batch_count}
use Rattle.archive_import.specs.Texts.{AreLinesOfRows, rows_to_come}
use Rattle.archive_import.proofs.adding.add_rows.Given as goal

-- the first rows are added, the others are left, and what was begun and what is still to be begun come to the whole
abbrev pub invariant-loop-left : goal.invariant-loop-left
invariant-loop-left g l = record {
  left : l.left ≡ length (rows_to_come l.batch.items l.lines);
  fewer : l.left ≤ l.fn.count;
  few : length l.batch.items ≤ 5;
  printable : ArePrintable l.batch.items;
  limited : AreLimited l.batch.items;
  rows : AreLinesOfRows l.lines;
  ahead : rows_to_come l.batch.items l.lines ≡ drop (l.fn.count - l.left) (rows_to_come l.fn.batch.items l.fn.lines);
  rising : rows_rise (last_stamp_of l.mine) (rows_to_come l.batch.items l.lines) ≡ true;
  fresh : book_is_stale l.mine ≡ false;
  most : most_rows_of l.mine ≡ most_rows;
  len : len_of l.mine + l.left ≡ len_of l.fn.mine + l.fn.count;
  moved : g.E.Disk.medium.moment l.to + 4 * batch_count l.left ≡ g.E.Disk.medium.moment l.fn.to + 4 * batch_count l.fn.count;
  faults : g.E.Disk.medium.faults l.fn.to ≤ g.E.Disk.medium.faults l.to;
  added : (old : List Row) → BookStandsFor l.fn.mine old → AddedSo g.E.Disk.medium old l.fn.to (λ rows. BookStandsFor l.mine (old ++ rows)
      × (rows ≡ take (l.fn.count - l.left) (rows_to_come l.fn.batch.items l.fn.lines))) (0 < l.left) l.to;
  stands : (old : List Row) → StandsOn g.E.Disk.medium l.fn.mine l.fn.to old
      → StandsOn g.E.Disk.medium l.mine l.to (old ++ take (l.fn.count - l.left) (rows_to_come l.fn.batch.items l.fn.lines));
  images : (old : List Row) → StandsOn g.E.Disk.medium l.fn.mine l.fn.to old
      → LeavesOnly g.E.Disk.medium (HasSome old (rows_to_come l.fn.batch.items l.fn.lines)) l.fn.to l.to;
}

abbrev pub decreases-loop-left : goal.decreases-loop-left
decreases-loop-left g l = l.left
