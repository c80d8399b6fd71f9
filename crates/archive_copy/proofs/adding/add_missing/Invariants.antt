use Rattle.std.proofs.Common.{◌≡◌, ◌<◌, ◌≤◌, ◌+◌, ◌-◌, ◌*◌, ◌++◌, List, false, length, take, drop}
use Rattle.causes.specs.Told.{WhereTold}
use Rattle.disk_model.specs.Disk.{LeavesOnly, Stays}
use Rattle.station_base.specs.declared.row.Row.{Row}
use Rattle.weather_book.specs.Book.{BookStandsFor, book_is_stale, len_of, most_rows_of}
use Rattle.weather_book.specs.Stands.{StandsOn, StandsToReadOn}
use Rattle.gated_log.specs.Calls.{Looked}
use Rattle.packed_rows.specs.Rows.{slot_total}
use Rattle.batch_adding.specs.Calls.{slots_end}
use Rattle.batch_adding.proofs.Batches.{AddedSo}
use Rattle.batch_adding.specs.Adding.{HasSome, batch_count}
use Rattle.archive_copy.specs.Reading.{IsAhead}
use Rattle.archive_copy.proofs.adding.add_missing.Given as goal
use Rattle.station_base.specs.Limits.{most_rows}

-- the rows up to a number are added, and what was begun and what is still to be begun come to the whole
abbrev pub invariant-loop-reader : goal.invariant-loop-reader
invariant-loop-reader g l = record {
  len : len_of l.mine ≡ l.reader.at;
  from_first : len_of l.fn.mine ≤ l.reader.at;
  within : l.reader.at ≤ l.count;
  ahead : IsAhead g.D.Disk.medium l.theirs l.from l.reader;
  fresh : book_is_stale l.mine ≡ false;
  most : most_rows_of l.mine ≡ most_rows;
  moved : g.E.Disk.medium.moment l.to + 4 * batch_count (l.count - l.reader.at)
      ≡ g.E.Disk.medium.moment l.initial.to + 4 * batch_count (l.count - len_of l.fn.mine);
  stays : Stays g.D.Disk.medium l.initial.from l.from;
  from_faults : g.D.Disk.medium.faults l.initial.from ≤ g.D.Disk.medium.faults l.from;
  to_faults : g.E.Disk.medium.faults l.initial.to ≤ g.E.Disk.medium.faults l.to;
  from_went : (rows : List Row) → BookStandsFor l.theirs rows → Looked g.D.Disk.medium (slots_end (slot_total rows)) false l.initial.from l.from;
  added : (mine_rows : List Row) → BookStandsFor l.fn.mine mine_rows → AddedSo g.E.Disk.medium mine_rows l.initial.to (λ rows. BookStandsFor l.mine (mine_rows ++ rows)
      × ((theirs_rows : List Row) → StandsToReadOn g.D.Disk.medium l.theirs l.initial.from theirs_rows → WhereTold (g.D.Disk.medium.seen l.initial.from) (λ _.
      rows ≡ take (l.reader.at - length mine_rows) (drop (length mine_rows) theirs_rows)))) (l.reader.at < l.count) l.to;
  stands : (theirs_rows mine_rows : List Row) → StandsToReadOn g.D.Disk.medium l.theirs l.initial.from theirs_rows
      → StandsOn g.E.Disk.medium l.fn.mine l.initial.to mine_rows → WhereTold (g.D.Disk.medium.seen l.initial.from) (λ _.
      StandsOn g.E.Disk.medium l.mine l.to (mine_rows ++ take (l.reader.at - length mine_rows) (drop (length mine_rows) theirs_rows)));
  images : (theirs_rows mine_rows : List Row) → StandsToReadOn g.D.Disk.medium l.theirs l.initial.from theirs_rows
      → StandsOn g.E.Disk.medium l.fn.mine l.initial.to mine_rows → WhereTold (g.D.Disk.medium.seen l.initial.from) (λ _.
      LeavesOnly g.E.Disk.medium (HasSome mine_rows (drop (length mine_rows) theirs_rows)) l.initial.to l.to);
}

abbrev pub decreases-loop-reader : goal.decreases-loop-reader
decreases-loop-reader g l = l.count - l.reader.at
