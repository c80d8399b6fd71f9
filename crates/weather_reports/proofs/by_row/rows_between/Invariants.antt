use Rattle.std.proofs.Common.{◌≡◌, ◌<◌, ◌≤◌, ◌-◌, List, drop, take, map, ◌+◌, ◌*◌, false, [], Some}
use Rattle.arrayvec.specs.ArrayVec.{array_vec_len}
use Rattle.causes.specs.Told.{WhereTold}
use Rattle.disk_model.specs.Disk.{Stays}
use Rattle.station_base.specs.RowLine.{row_line}
use Rattle.station_base.specs.declared.row.Row.{Row}
use Rattle.weather_book.specs.Book.{BookStandsFor}
use Rattle.gated_log.specs.Calls.{Looked}
use Rattle.gated_log.specs.Layout.{slot_size}
use Rattle.packed_rows.specs.Rows.{slot_total}
use Rattle.weather_book.specs.Stands.{StandsToReadOn}
use Rattle.weather_reports.specs.declared.line.TheConstants.{PIECE}
use Rattle.weather_reports.specs.Wrote.{Wrote}
use Rattle.weather_reports.proofs.Progress.{Comes}
use Rattle.weather_reports.proofs.by_row.rows_between.Given as goal

-- the lines of the rows that are left are ahead
abbrev pub invariant-loop-at : goal.invariant-loop-at
invariant-loop-at g l = record {
  room : array_vec_len l.pending < PIECE;
  faults : g.K.Sink.outlet.faults l.out ≡ g.K.Sink.outlet.faults l.initial.out;
  disk : g.D.Disk.medium.faults l.initial.disk ≤ g.D.Disk.medium.faults l.disk;
  stays : Stays g.D.Disk.medium l.initial.disk l.disk;
  went : (rows : List Row) → BookStandsFor l.book rows → Looked g.D.Disk.medium (slot_size * (slot_total rows + 1)) false l.initial.disk l.disk;
  lines : (rows : List Row) → StandsToReadOn g.D.Disk.medium l.book l.initial.disk rows
      → WhereTold (g.D.Disk.medium.seen l.initial.disk) (λ _. Comes (g.K.Sink.outlet.taken l.initial.out) (g.K.Sink.outlet.taken l.out)
      (map row_line (take (l.end - l.fn.from) (drop l.fn.from rows))) (map row_line (take (l.end - l.at) (drop l.at rows))) l.pending.items);
  wrote : Wrote g.K.Sink.outlet g.D.Disk.medium l.book l.initial.disk (λ rows written. Comes (Some []) (Some written)
      (map row_line (take (l.end - l.fn.from) (drop l.fn.from rows))) (map row_line (take (l.end - l.at) (drop l.at rows))) l.pending.items)
      l.initial.out l.out;
}

abbrev pub decreases-loop-at : goal.decreases-loop-at
decreases-loop-at g l = l.end - l.at
