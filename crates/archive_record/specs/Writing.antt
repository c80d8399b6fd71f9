-- Rows that can be written as records.
use Rattle.std.specs.Prelude.{ℕ, ℤ, ◌≡◌, ◌<◌, ◌==◌, Bool, true, ◌&&◌, List, [], ◌∷◌, slice_index, slice_index_or, None}
use Rattle.std.specs.declared.option.Option.{Option}
use Rattle.station_base.specs.declared.row.Row.{Row}
use Rattle.station_base.specs.Stamp.{date_word_of, time_word_of}
use Rattle.archive_record.specs.declared.place.Place.{Place}
use Rattle.archive_record.specs.Kind.{word_at}
use Rattle.archive_record.specs.Place.{CanHold, can_hold}
use Rattle.archive_record.specs.Reading.{record_values}
use Rattle.archive_record.specs.Table.{places, place_of}
use Rattle.station_base.specs.Fields.{field_count}

-- each field's place can hold its value
abbrev pub CanHoldAll : List (Option ℤ) → Type 0
CanHoldAll values = (field : ℕ) → field < field_count → CanHold (place_of field) (slice_index_or values field None)

-- `CanHoldAll` as a test: each place can hold its value, and one behind the last value holds none
abbrev pub can_hold_all : List Place → List (Option ℤ) → Bool
can_hold_all [] values = true
can_hold_all (place ∷ rest) [] = can_hold place None && can_hold_all rest []
can_hold_all (place ∷ rest) (value ∷ values) = can_hold place value && can_hold_all rest values

-- a row that a record can tell: limits made no field missing, and each field's place can hold its value
pub record CanTell (row : Row) : Type 0 where
  pub unlimited : row.limited ≡ 0
  pub values : CanHoldAll row.values

-- `CanTell` as a test
abbrev pub can_tell : Row → Bool
can_tell row = (row.limited == 0) && can_hold_all places row.values

-- the bytes tell the stamp and the values of the row, in revision B
pub record TellsRow (bytes : List ℕ) (row : Row) : Type 0 where
  pub date : word_at bytes 0 ≡ date_word_of row.stamp
  pub time : word_at bytes 2 ≡ time_word_of row.stamp
  pub revision : slice_index bytes 42 ≡ 0
  pub values : record_values bytes ≡ row.values
