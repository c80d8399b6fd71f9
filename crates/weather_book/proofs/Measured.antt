-- Rows that are read back of their slots can have been measured.
use Rattle.std.proofs.Common.{◌≡◌, ℕ, ℤ, zero, suc, ◌/◌, ◌%◌, ◌≤◌, Bool, true, false, List, [], ◌∷◌, drop, Option, Some, sym, subst, arith}
use Rattle.std.specs.Prelude.{All, unsigned_abs, nat_le, ◌==◌}
use Rattle.std.specs.Bool.{then_some}
use Rattle.std.proofs.lemmas.Bool.Decides.{nat_tests}
use Rattle.std.proofs.lemmas.Int.{ints}
use Rattle.std.proofs.lemmas.List.Elements.{All-cons, All-nil}
use Rattle.station_base.specs.RowLine.{IsPrintable}
use Rattle.station_base.specs.declared.row.Row.{Row}
use Rattle.station_base.proofs.Printable.{printable_some, printable_none}
use Rattle.station_base.proofs.Civil.{stamp_civil}
use Rattle.station_base.specs.Period.{is_period}
use Rattle.row_slot.specs.Slot.{slot_of, number_at, presence_in}
use Rattle.row_slot.specs.Values.{signed_number_in, is_allowed, slot_values_in}
use Rattle.row_slot.proofs.Inverse.{parts_of, end_of}
use Rattle.row_slot.proofs.Slots.{parts-row_in}
use Rattle.daily_summary.specs.Measured.{IsMeasured}
use Rattle.packed_rows.specs.Packed.{IsReadBack, AreReadBack}
use Rattle.station_base.specs.Fields.{field_count}
use Rattle.station_base.specs.Limits.{farthest_value}

within_bound : (z : ℤ) → nat_le (unsigned_abs z) farthest_value ≡ true → IsPrintable (Some z)
within_bound z is =
    let le : unsigned_abs z ≤ farthest_value = grind (arith, nat_tests) in
    printable_some z (omega (arith, ints), omega (arith, ints))

allowed_printable : (some : Bool) (z : ℤ) → is_allowed some z ≡ true → IsPrintable (then_some some z)
allowed_printable true z is = within_bound z is
allowed_printable false z is = printable_none

-- values that are read are within the bound
values_printable : (count presence : ℕ) (bytes : List ℕ) (values : List (Option ℤ)) → slot_values_in count presence bytes ≡ Some values → All IsPrintable values
unfolding slot_values_in
values_printable zero presence bytes values is = subst (All IsPrintable) (sym (end_of (presence == 0) values is).1) (All-nil IsPrintable)
values_printable (suc count) presence bytes values is =
    let parts = parts_of (is_allowed (presence % 2 == 1) (signed_number_in bytes)) (then_some (presence % 2 == 1) (signed_number_in bytes)) (slot_values_in count (presence / 2) (drop 4 bytes)) values is in
    let rest : List (Option ℤ) = parts.1.0 in
    subst (All IsPrintable) (sym parts.1.1.1)
    (All-cons IsPrintable (then_some (presence % 2 == 1) (signed_number_in bytes)) rest (allowed_printable (presence % 2 == 1) (signed_number_in bytes) parts.0)
    (values_printable count (presence / 2) (drop 4 bytes) rest parts.1.1.0))

pub measured : (row : Row) → IsReadBack row → IsMeasured row
measured row back =
    let parts = parts-row_in (slot_of row) row back.back in
    record {
      stamp = stamp_civil (number_at 2 4 (slot_of row)) (number_at 2 6 (slot_of row)) row.stamp parts.stamp;
      interval = subst (λ (n : ℕ). is_period n ≡ true) parts.interval parts.period;
      values = values_printable field_count (presence_in (slot_of row)) (drop 20 (slot_of row)) row.values parts.values;
    }

pub all_measured : (rows : List Row) → AreReadBack rows → All IsMeasured rows
all_measured [] back = All-nil IsMeasured
all_measured (row ∷ rows) back = All-cons IsMeasured row rows (measured row back.0) (all_measured rows back.1)
