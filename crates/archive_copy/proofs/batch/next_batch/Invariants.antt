use Rattle.std.proofs.Common.{◌≡◌, ◌≤◌, ◌-◌, List, true, false, length, take, drop}
use Rattle.causes.specs.Told.{WhereTold}
use Rattle.disk_model.specs.Disk.{Stays}
use Rattle.station_base.specs.declared.row.Row.{Row}
use Rattle.gated_log.specs.Calls.{Looked}
use Rattle.weather_book.specs.Book.{BookStandsFor}
use Rattle.packed_rows.specs.Rows.{slot_total}
use Rattle.batch_adding.specs.Calls.{slots_end}
use Rattle.archive_copy.specs.Reading.{IsAhead}
use Rattle.packed_rows.specs.Adding.{AreLimited, ArePrintable}
use Rattle.packed_rows.specs.Rising.{last_stamp_after, rows_rise}
use Rattle.weather_book.specs.Stands.{StandsToReadOn}
use Rattle.archive_copy.proofs.batch.next_batch.Given as goal

-- the rows so far are those from the number on, and rise
abbrev pub invariant-loop-last : goal.invariant-loop-last
invariant-loop-last g l = record {
  from_first : l.initial.reader.at ≤ l.reader.at;
  within : l.reader.at ≤ l.end;
  count : length l.batch.items ≡ l.reader.at - l.initial.reader.at;
  last : l.last ≡ last_stamp_after l.fn.last l.batch.items;
  up : rows_rise l.fn.last l.batch.items ≡ true;
  printable : ArePrintable l.batch.items;
  limited : AreLimited l.batch.items;
  ahead : IsAhead g.D.Disk.medium l.theirs l.from l.reader;
  stays : Stays g.D.Disk.medium l.initial.from l.from;
  faults : g.D.Disk.medium.faults l.initial.from ≤ g.D.Disk.medium.faults l.from;
  went : (rows : List Row) → BookStandsFor l.theirs rows → Looked g.D.Disk.medium (slots_end (slot_total rows)) false l.initial.from l.from;
  rows : (rows : List Row) → StandsToReadOn g.D.Disk.medium l.theirs l.initial.from rows
      → WhereTold (g.D.Disk.medium.seen l.initial.from) (λ _. l.batch.items ≡ take (l.reader.at - l.initial.reader.at) (drop l.initial.reader.at rows));
}

abbrev pub decreases-loop-last : goal.decreases-loop-last
decreases-loop-last g l = l.end - l.reader.at
