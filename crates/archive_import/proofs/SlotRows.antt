-- The row of a slot may be written as a line.
use Rattle.std.proofs.Common.{◌≡◌, ℕ, ℤ, zero, suc, ◌/◌, ◌%◌, ◌≤◌, ◌==◌, Bool, true, false, List, length, drop, All, Option, Some, refl, sym, ap, arith, subst}
use Rattle.std.specs.Prelude.{unsigned_abs}
use Rattle.std.specs.Bool.{then_some}
use Rattle.std.proofs.lemmas.Option.{cond_some}
use Rattle.std.proofs.lemmas.List.Elements.{All-nil, All-cons}
use Rattle.station_base.specs.declared.row.Row.{Row}
use Rattle.station_base.specs.CivilMinute.{CivilMinute, IsCivilMinute, is_civil_minute}
use Rattle.station_base.specs.Fields.{field_count}
use Rattle.station_base.specs.Period.{is_period, IsPeriod}
use Rattle.station_base.specs.RowLine.{IsPrintable}
use Rattle.station_base.specs.Stamp.{spelled_stamp, stamp_of_words}
use Rattle.station_base.proofs.Civil.{test_tells}
use Rattle.station_base.proofs.Printable.{printable_none, printable_some}
use Rattle.row_slot.specs.Slot.{row_in_slot, number_at, presence_in}
use Rattle.row_slot.specs.Values.{slot_values_in, is_allowed, signed_number_in}
use Rattle.row_slot.proofs.Slots.{AreParts, parts-row_in}
use Rattle.row_slot.proofs.Inverse.{parts_of, end_of}
use Rattle.std.proofs.lemmas.Bool.Decides.{nat_tests}
use Rattle.std.proofs.lemmas.Int.{ints}
use Rattle.station_base.specs.Limits.{farthest_value}
use Rattle.row_text.specs.IsLineRow.{IsLineRow}

-- the minute that words name is one of the calendar
words_civil : (date time : ℕ) (c : CivilMinute) → stamp_of_words date time ≡ Some c → IsCivilMinute c
unfolding stamp_of_words
words_civil date time c read =
    let (civil, same) = cond_some (is_civil_minute (spelled_stamp date time)) (spelled_stamp date time) c read in
    let P : CivilMinute → Type 0 = IsCivilMinute in
    subst P same (test_tells (spelled_stamp date time) civil)

-- a value that a slot may hold is one that a line has room for
printable_of : (z : ℤ) → is_allowed true z ≡ true → IsPrintable (Some z)
printable_of z test =
    let small : unsigned_abs z ≤ farthest_value = grind (arith, nat_tests) in
    printable_some z (omega (arith, ints), omega (arith, ints))

printable_told : (present : Bool) (number : ℤ) → is_allowed present number ≡ true → IsPrintable (then_some present number)
printable_told true number allowed = printable_of number allowed
printable_told false number allowed = printable_none

-- so many values, each of which a line has room for
abbrev AreSome : ℕ → List (Option ℤ) → Type 0
AreSome count values = (length values ≡ count) × All IsPrintable values

values_some : (count presence : ℕ) (bytes : List ℕ) (values : List (Option ℤ)) → slot_values_in count presence bytes ≡ Some values → AreSome count values
unfolding slot_values_in
values_some zero presence bytes values is =
    let parts = end_of (presence == 0) values is in
    let P : List (Option ℤ) → Type 0 = AreSome 0 in
    subst P (sym parts.1) (refl, All-nil IsPrintable)
values_some (suc count) presence bytes values is =
    let value : Option ℤ = then_some (presence % 2 == 1) (signed_number_in bytes) in
    let parts = parts_of (is_allowed (presence % 2 == 1) (signed_number_in bytes)) value (slot_values_in count (presence / 2) (drop 4 bytes)) values is in
    let rest = values_some count (presence / 2) (drop 4 bytes) parts.1.0 parts.1.1.0 in
    let P : List (Option ℤ) → Type 0 = AreSome (suc count) in
    subst P (sym parts.1.1.1) (ap suc rest.0, All-cons IsPrintable value parts.1.0 (printable_told (presence % 2 == 1) (signed_number_in bytes) parts.0) rest.1)

pub line_row : (slot : List ℕ) (row : Row) → row_in_slot slot ≡ Some row → IsLineRow row
line_row slot row read =
    let parts : AreParts slot row = parts-row_in slot row read in
    let some = values_some field_count (presence_in slot) (drop 20 slot) row.values parts.values in
    let period : IsPeriod row.interval = (let P : ℕ → Type 0 = λ n. is_period n ≡ true in subst P parts.interval parts.period) in
    record {
      stamp = words_civil (number_at 2 4 slot) (number_at 2 6 slot) row.stamp parts.stamp;
      interval = period;
      fields = some.0;
      values = some.1;
      limited = parts.missing;
    }
