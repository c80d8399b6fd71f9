use Rattle.std.proofs.Common.{◌≡◌, ◌<◌, ℕ, pos, length, get_or}
use Rattle.row_slot.specs.Values.{numbers_of}
use Rattle.row_slot.proofs.values.spelled.Given as goal
use Rattle.station_base.specs.Fields.{field_count}

abbrev pub invariant-loop-field : goal.invariant-loop-field
invariant-loop-field l = record {
  long : length l.numbers ≡ field_count;
  each : (k : ℕ) → k < l.field → get_or l.numbers k (pos 0) ≡ get_or (numbers_of l.values) k (pos 0);
}
