use Rattle.std.proofs.Common.{◌≡◌, ◌≤◌, ◌*◌, ◌++◌, List, take, drop, true}
use Rattle.arrayvec.specs.ArrayVec.{array_vec_len}
use Rattle.station_base.specs.declared.row.Row.{Row}
use Rattle.gated_log.specs.Layout.{slot_size}
use Rattle.packed_rows.specs.Packed.{joined_slots, AreReadBack}
use Rattle.packed_rows.specs.Rising.{rows_rise}
use Rattle.packed_rows.specs.Rows.{slots_after}
use Rattle.packed_rows.specs.Tail.{EndsRows}
use Rattle.packed_rows.proofs.batch_slots.pack.Given as goal

abbrev pub invariant-loop-row : goal.invariant-loop-row
invariant-loop-row l = record {
  ends : (before : List Row) → EndsRows l.tail before → EndsRows l.end (before ++ take l.row-index l.rows);
  slots : (before : List Row) → EndsRows l.tail before
      → l.slots.items ++ joined_slots (slots_after (before ++ take l.row-index l.rows) (drop l.row-index l.rows)) ≡ joined_slots (slots_after before l.rows);
  size : array_vec_len l.slots ≤ 14 * slot_size * l.row-index;
  rising : rows_rise l.end.last (drop l.row-index l.rows) ≡ true;
  read_back : AreReadBack (take l.row-index l.rows);
}
