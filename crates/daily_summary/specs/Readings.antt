-- The values that rows have of a field.
use Rattle.std.specs.Prelude.{ℕ, ℤ, pos, ◌*◌, ◌+ℤ◌, ◌*ℤ◌, int_lt, if◌then◌else◌}
use Rattle.std.specs.Prelude.{List, [], ◌∷◌, slice_index_or, sum_by, Some, None}
use Rattle.std.specs.declared.option.Option.{Option}
use Rattle.station_base.specs.CivilMinute.{CivilMinute}
use Rattle.station_base.specs.declared.row.Row.{Row}

-- a value of a field, with the stamp of its row and the seconds of the row's interval
pub record Reading : Type 0 where
  pub value : ℤ
  pub stamp : CivilMinute
  pub seconds : ℕ

-- a row's reading of this value
abbrev pub row_reading : Row → ℤ → Reading
row_reading row value = record { value = value; stamp = row.stamp; seconds = 60 * row.interval }

-- the value of a field, if the row has one
abbrev pub field_value : ℕ → Row → Option ℤ
field_value field row = slice_index_or row.values field None

-- the row's reading in front of others, where it has the value
abbrev pub with_reading : Option ℤ → Row → List Reading → List Reading
with_reading None row others = others
with_reading (Some value) row others = row_reading row value ∷ others

-- the readings of a field, in the order of the rows; a row without a value is left out
abbrev pub readings : ℕ → List Row → List Reading
readings field [] = []
readings field (row ∷ rows) = with_reading (field_value field row) row (readings field rows)

-- of two readings the one with the lesser value, and of equal ones the earlier
abbrev pub lesser : Reading → Reading → Reading
lesser earlier later = if int_lt later.value earlier.value then later else earlier

-- of two readings the one with the greater value, and of equal ones the earlier
abbrev pub greater : Reading → Reading → Reading
greater earlier later = if int_lt earlier.value later.value then later else earlier

-- the earliest of those with the least value, of a reading and more
abbrev pub least_reading : Reading → List Reading → Reading
least_reading first [] = first
least_reading first (next ∷ more) = lesser first (least_reading next more)

-- the earliest of those with the greatest value
abbrev pub greatest : Reading → List Reading → Reading
greatest first [] = first
greatest first (next ∷ more) = greater first (greatest next more)

-- the sum of the values
abbrev pub readings_total : List Reading → ℤ
readings_total [] = pos 0
readings_total (r ∷ more) = r.value +ℤ readings_total more

-- the sum of the values, each times its seconds
abbrev pub weighted : List Reading → ℤ
weighted [] = pos 0
weighted (r ∷ more) = (r.value *ℤ pos r.seconds) +ℤ weighted more

-- the sum of the seconds
abbrev pub time : List Reading → ℕ
time readings = sum_by (λ r. r.seconds) readings
