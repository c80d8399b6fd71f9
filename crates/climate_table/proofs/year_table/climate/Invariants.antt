use Rattle.std.proofs.Common.{◌≡◌, ◌<◌, ◌≤◌, List, [], IfSome, Some, ◌+◌, ◌*◌, false}
use Rattle.arrayvec.specs.ArrayVec.{array_vec_len}
use Rattle.causes.specs.Told.{WhereTold}
use Rattle.disk_model.specs.Disk.{Stays}
use Rattle.station_base.specs.declared.row.Row.{Row}
use Rattle.weather_book.specs.Book.{BookStandsFor}
use Rattle.gated_log.specs.Calls.{Looked}
use Rattle.gated_log.specs.Layout.{slot_size}
use Rattle.packed_rows.specs.Rows.{slot_total}
use Rattle.weather_book.specs.Stands.{StandsToReadOn}
use Rattle.weather_reports.specs.declared.line.TheConstants.{PIECE}
use Rattle.weather_reports.specs.Wrote.{Wrote}
use Rattle.climate_table.specs.Spans.{HasDaysAhead}
use Rattle.climate_table.proofs.Spans.{IsInYear}
use Rattle.climate_table.proofs.UnderWay.{IsUnderWay}
use Rattle.climate_table.proofs.year_table.climate.Given as goal

-- the table is under way
abbrev pub invariant-loop-n : goal.invariant-loop-n
invariant-loop-n g l = record {
  room : array_vec_len l.pending < PIECE;
  faults : g.K.Sink.outlet.faults l.out ≡ g.K.Sink.outlet.faults l.initial.out;
  disk : g.D.Disk.medium.faults l.initial.disk ≤ g.D.Disk.medium.faults l.disk;
  stays : Stays g.D.Disk.medium l.initial.disk l.disk;
  went : (rows : List Row) → BookStandsFor l.book rows → Looked g.D.Disk.medium (slot_size * (slot_total rows + 1)) false l.initial.disk l.disk;
  month : IfSome l.table.month (IsInYear l.year);
  whole : IfSome l.table.year (IsInYear l.year);
  month_days : (rows : List Row) → BookStandsFor l.book rows → IfSome l.table.month (HasDaysAhead rows l.n);
  year_days : (rows : List Row) → BookStandsFor l.book rows → IfSome l.table.year (HasDaysAhead rows l.n);
  lines : (rows : List Row) → StandsToReadOn g.D.Disk.medium l.book l.initial.disk rows
      → WhereTold (g.D.Disk.medium.seen l.initial.disk) (λ _. IsUnderWay l.year rows l.n l.table (g.K.Sink.outlet.taken l.initial.out)
      (g.K.Sink.outlet.taken l.out) l.pending.items);
  wrote : Wrote g.K.Sink.outlet g.D.Disk.medium l.book l.initial.disk (λ rows written. IsUnderWay l.year rows l.n l.table (Some []) (Some written)
      l.pending.items) l.initial.out l.out;
}
