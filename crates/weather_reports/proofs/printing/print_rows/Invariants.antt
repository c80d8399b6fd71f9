use Rattle.std.proofs.Common.{◌≡◌, ◌<◌, ◌++◌, drop, map}
use Rattle.arrayvec.specs.ArrayVec.{array_vec_len}
use Rattle.causes.specs.Written.{Leaves}
use Rattle.station_base.specs.RowLine.{row_line}
use Rattle.weather_reports.specs.declared.line.TheConstants.{PIECE}
use Rattle.station_io.specs.declared.sink.Put.TheVariants.{Done}
use Rattle.weather_reports.specs.Reported.{text_of_lines}
use Rattle.weather_reports.specs.Wrote.{Prints}
use Rattle.weather_reports.proofs.printing.print_rows.Given as goal

-- of the text what waits is left, and what the rows ahead give
abbrev pub invariant-loop-row : goal.invariant-loop-row
invariant-loop-row g l = record {
  room : array_vec_len l.pending < PIECE;
  faults : g.K.Sink.outlet.faults l.out ≡ g.K.Sink.outlet.faults l.initial.out;
  left : Leaves (g.K.Sink.outlet.taken l.initial.out) (g.K.Sink.outlet.taken l.out)
      (l.initial.pending.items ++ text_of_lines (map row_line l.rows))
      (l.pending.items ++ text_of_lines (map row_line (drop l.row-index l.rows)));
  wrote : Prints g.K.Sink.outlet Done (l.initial.pending.items ++ text_of_lines (map row_line l.rows))
      (l.pending.items ++ text_of_lines (map row_line (drop l.row-index l.rows))) l.initial.out l.out;
}
