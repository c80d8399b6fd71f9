-- A row as a slot of an archive, and back. The layout is this project's own.
use Rattle.std.specs.Prelude.{ℕ, ℤ, ◌==◌, ◌&&◌, Bool, true, false, List, ◌∷◌, ◌++◌, drop, slice_index, Some, None}
use Rattle.std.specs.Bool.{then_some}
use Rattle.std.specs.declared.option.Option.{Option}
use Rattle.byteorder.specs.Endian.{little_bytes, little_number}
use Rattle.station_base.specs.declared.row.Row.{Row}
use Rattle.station_base.specs.CivilMinute.{CivilMinute}
use Rattle.station_base.specs.FieldSet.{are_missing}
use Rattle.station_base.specs.Period.{is_period}
use Rattle.station_base.specs.Stamp.{date_word_of, time_word_of, stamp_of_words}
use Rattle.row_slot.specs.Values.{presence_of, numbers_of, spelled_numbers, slot_values_in}
use Rattle.station_base.specs.Fields.{field_count}

-- the bytes of a row, which fill a slot of the archive's log
abbrev pub row_size : ℕ
row_size = 176

-- what stands before the values: a closed gate, the kind of a row, no number of slots, the words of the stamp, the
-- interval in minutes, two bytes 0 and the presence bits
abbrev pub head_of : Row → List ℕ
head_of row =
    0 ∷ 1 ∷ 0 ∷ 0 ∷ (little_bytes 2 (date_word_of row.stamp) ++ little_bytes 2 (time_word_of row.stamp)
    ++ little_bytes 2 row.interval ++ little_bytes 2 0 ++ little_bytes 8 (presence_of row.values))

-- the bytes of a row: the head, the number of each field, and the bits of those that limits made missing
unfoldable pub slot_of : Row → List ℕ
slot_of row = head_of row ++ (spelled_numbers (numbers_of row.values) ++ little_bytes 8 row.limited)

-- the number of so many bytes at a place, the low byte first
abbrev pub number_at : ℕ → ℕ → List ℕ → ℕ
number_at count place slot = little_number count (drop place slot)

-- whether the slot is one of a row, whose bytes that belong to no part are 0
abbrev pub is_row_slot : List ℕ → Bool
is_row_slot slot =
    (slice_index slot 1 == 1) && (slice_index slot 0 == 0) && (number_at 2 2 slot == 0) && (number_at 2 10 slot == 0)

-- the stamp that the two words name, if they name one
abbrev pub stamp_in_slot : List ℕ → Option CivilMinute
stamp_in_slot slot = stamp_of_words (number_at 2 4 slot) (number_at 2 6 slot)

-- the minutes of the interval
abbrev pub interval_in : List ℕ → ℕ
interval_in slot = number_at 2 8 slot

-- the presence bits
abbrev pub presence_in : List ℕ → ℕ
presence_in slot = number_at 8 12 slot

-- the values of the fields, where each is allowed
abbrev pub values_in : List ℕ → Option (List (Option ℤ))
values_in slot = slot_values_in field_count (presence_in slot) (drop 20 slot)

-- the bits of the fields that limits made missing
abbrev pub limited_in : List ℕ → ℕ
limited_in slot = number_at 8 168 slot

-- a row of these parts, where all of them are there and the fields that limits made missing have no value
abbrev pub row_of : Bool → Option CivilMinute → Bool → ℕ → Option (List (Option ℤ)) → ℕ → Option Row
row_of false stamp periodic interval values limited = None
row_of true None periodic interval values limited = None
row_of true (Some stamp) false interval values limited = None
row_of true (Some stamp) true interval None limited = None
row_of true (Some stamp) true interval (Some values) limited =
    then_some (are_missing limited values)
    (record { stamp = stamp; interval = interval; values = values; limited = limited })

-- the row of a slot, and none where it is ill-formed
unfoldable pub row_in_slot : List ℕ → Option Row
row_in_slot slot =
    row_of (is_row_slot slot) (stamp_in_slot slot) (is_period (interval_in slot)) (interval_in slot) (values_in slot)
    (limited_in slot)
