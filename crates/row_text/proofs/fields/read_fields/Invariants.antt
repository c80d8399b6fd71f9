use Rattle.std.proofs.Common.{◌≡◌, ℕ, ◌<◌, ◌≤◌, ◌-◌, ◌^◌, None, get_or, length}
use Rattle.station_base.specs.Fields.{field_count}
use Rattle.row_text.specs.FieldsTold.{told_from}
use Rattle.row_text.specs.RowOfLine.{row_behind_period}
use Rattle.row_text.proofs.FieldsInTurn.{row_on}
use Rattle.row_text.proofs.fields.read_fields.Given as goal

abbrev pub invariant-loop-index : goal.invariant-loop-index
invariant-loop-index l = record {
  same : row_on l.stamp l.interval l.values l.limited l.index (told_from (field_count - l.index) l.index l.rest) ≡ row_behind_period l.stamp l.interval l.fn.text;
  long : length l.values ≡ field_count;
  free : (k : ℕ) → l.index ≤ k → get_or l.values k None ≡ None;
  small : l.limited < 2 ^ l.index;
}
