use Rattle.std.proofs.Common.{◌≡◌, ◌<◌, ◌≤◌, ℤ, List, IfSome, drop, ◌+◌, ◌*◌, false, [], Some}
use Rattle.std.specs.Prelude.{filter, flat_map}
use Rattle.arrayvec.specs.ArrayVec.{array_vec_len}
use Rattle.causes.specs.Told.{WhereTold}
use Rattle.disk_model.specs.Disk.{Stays}
use Rattle.station_base.specs.declared.row.Row.{Row}
use Rattle.weather_book.specs.Book.{BookStandsFor}
use Rattle.packed_rows.specs.Days.{days_of}
use Rattle.gated_log.specs.Calls.{Looked}
use Rattle.gated_log.specs.Layout.{slot_size}
use Rattle.packed_rows.specs.Rows.{slot_total}
use Rattle.weather_book.specs.Stands.{StandsToReadOn}
use Rattle.weather_reports.specs.declared.line.TheConstants.{PIECE}
use Rattle.weather_reports.specs.Begun.{MonthIsBegun, MonthIsInOrder, HasFewRows, months_after}
use Rattle.weather_reports.specs.Report.{is_among, month_lines, month_table_lines}
use Rattle.weather_reports.specs.Wrote.{Wrote}
use Rattle.weather_reports.proofs.Progress.{Comes}
use Rattle.weather_reports.proofs.by_month.month_table.Given as goal

-- the lines of the month that has begun, and of the days that are left, are ahead
abbrev pub invariant-loop-n : goal.invariant-loop-n
invariant-loop-n g l = record {
  room : array_vec_len l.pending < PIECE;
  faults : g.K.Sink.outlet.faults l.out ≡ g.K.Sink.outlet.faults l.initial.out;
  disk : g.D.Disk.medium.faults l.initial.disk ≤ g.D.Disk.medium.faults l.disk;
  stays : Stays g.D.Disk.medium l.initial.disk l.disk;
  went : (rows : List Row) → BookStandsFor l.book rows → Looked g.D.Disk.medium (slot_size * (slot_total rows + 1)) false l.initial.disk l.disk;
  month : IfSome l.month MonthIsInOrder;
  few : (rows : List Row) → BookStandsFor l.book rows → IfSome l.month (HasFewRows rows l.n);
  lines : (rows : List Row) → StandsToReadOn g.D.Disk.medium l.book l.initial.disk rows
      → WhereTold (g.D.Disk.medium.seen l.initial.disk) (λ _. (begun : List ℤ) × MonthIsBegun rows begun l.month
      × Comes (g.K.Sink.outlet.taken l.initial.out) (g.K.Sink.outlet.taken l.out) (month_table_lines l.first l.last rows)
      (flat_map (month_lines rows) (months_after begun (filter (is_among l.first l.last) (drop l.n (days_of rows)))))
      l.pending.items);
  wrote : Wrote g.K.Sink.outlet g.D.Disk.medium l.book l.initial.disk (λ rows written. (begun : List ℤ) × MonthIsBegun rows begun l.month
      × Comes (Some []) (Some written) (month_table_lines l.first l.last rows)
      (flat_map (month_lines rows) (months_after begun (filter (is_among l.first l.last) (drop l.n (days_of rows)))))
      l.pending.items) l.initial.out l.out;
}
