use Rattle.std.proofs.Common.{◌≡◌, length, drop}
use Rattle.row_slot.proofs.Fields.{AreAllowed, Tells}
use Rattle.row_slot.proofs.values.read_values.Given as goal
use Rattle.station_base.specs.Fields.{field_count}

abbrev pub invariant-loop-field : goal.invariant-loop-field
invariant-loop-field l = record {
  long : length l.values ≡ field_count;
  allowed : AreAllowed l.field l.presence (drop 20 l.slot);
  tells : Tells l.field l.presence (drop 20 l.slot) l.values;
}
