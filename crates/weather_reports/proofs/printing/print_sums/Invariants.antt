use Rattle.std.proofs.Common.{◌≡◌, ◌<◌, ◌++◌, drop}
use Rattle.arrayvec.specs.ArrayVec.{array_vec_len}
use Rattle.causes.specs.Written.{Leaves}
use Rattle.weather_reports.specs.declared.line.TheConstants.{PIECE}
use Rattle.weather_reports.specs.Line.{field_lines_from}
use Rattle.station_io.specs.declared.sink.Put.TheVariants.{Done}
use Rattle.weather_reports.specs.Reported.{text_of_lines}
use Rattle.weather_reports.specs.Wrote.{Prints}
use Rattle.weather_reports.proofs.printing.print_sums.Given as goal

-- of the text what waits is left, and what the fields ahead give
abbrev pub invariant-loop-index : goal.invariant-loop-index
invariant-loop-index g l = record {
  room : array_vec_len l.pending < PIECE;
  faults : g.K.Sink.outlet.faults l.out ≡ g.K.Sink.outlet.faults l.initial.out;
  left : Leaves (g.K.Sink.outlet.taken l.initial.out) (g.K.Sink.outlet.taken l.out)
      (l.initial.pending.items ++ text_of_lines (field_lines_from l.head 0 l.sums))
      (l.pending.items ++ text_of_lines (field_lines_from l.head l.index (drop l.index l.sums)));
  wrote : Prints g.K.Sink.outlet Done (l.initial.pending.items ++ text_of_lines (field_lines_from l.head 0 l.sums))
      (l.pending.items ++ text_of_lines (field_lines_from l.head l.index (drop l.index l.sums))) l.initial.out l.out;
}
