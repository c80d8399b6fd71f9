use Rattle.std.proofs.Common.{◌≡◌, ◌+◌, ◌*◌, ◌++◌, List, map}
use Rattle.std.specs.List.{range_with_len}
use Rattle.arrayvec.specs.ArrayVec.{array_vec_len}
use Rattle.station_base.specs.declared.row.Row.{Row}
use Rattle.gated_log.specs.Layout.{slot_size}
use Rattle.packed_rows.specs.Closing.{closing_slot}
use Rattle.packed_rows.specs.Packed.{joined_slots}
use Rattle.packed_rows.specs.Tail.{EndsRows}
use Rattle.packed_rows.proofs.batch_slots.push_row.Given as goal

abbrev pub invariant-loop-k : goal.invariant-loop-k
invariant-loop-k l = record {
  slots : (before : List Row) → EndsRows l.tail before → l.slots.items ≡ l.initial.slots.items ++ joined_slots (map (λ j. closing_slot before j) (range_with_len 0 l.k));
  size : array_vec_len l.slots ≡ array_vec_len l.initial.slots + slot_size * l.k;
}
