use Rattle.std.proofs.Common.{◌≡◌, ◌≤◌, ◌+◌, ◌*◌, ◌++◌, drop}
use Rattle.station_base.specs.Line.{line_so_far}
use Rattle.station_base.specs.RowLine.{values_text}
use Rattle.station_base.proofs.row.push_values.Given as goal

abbrev pub invariant-loop-index : goal.invariant-loop-index
invariant-loop-index l = record {
  text : line_so_far l.line ++ values_text l.limited l.index (drop l.index l.values) ≡ line_so_far l.initial.line ++ values_text l.limited 0 l.values;
  length : l.line.end ≤ l.initial.line.end + 23 * l.index;
}
