-- Rows, and the line of a row.
use Rattle.std.specs.Prelude.{ℕ, ℤ, ◌+◌, Bool, true, false, List, [], ◌∷◌, ◌++◌, Some, None, codes, replicate}
use Rattle.std.specs.Option.{ForSome}
use Rattle.std.specs.declared.option.Option.{Option}
use Rattle.jiff.specs.Words.{IsWithin}
use Rattle.station_base.specs.declared.row.Row.{Row}
use Rattle.station_base.specs.CivilMinute.{first_minute}
use Rattle.station_base.specs.Fields.{name_of, field_count}
use Rattle.station_base.specs.FieldSet.{is_member}
use Rattle.station_base.specs.NumberText.{number_text, signed_text}
use Rattle.station_base.specs.Stamp.{stamp_text}
use Rattle.station_base.specs.Limits.{farthest_value}

-- the row of the first minute without a value, which fills places that hold no row yet
abbrev pub blank_row : Row
blank_row = record { stamp = first_minute; interval = 1; values = replicate field_count None; limited = 0 }

-- no value, or one within a bound either way
abbrev pub IsValueWithin : ℕ → Option ℤ → Type 0
IsValueWithin bound value = ForSome value (IsWithin bound)

-- a number that a row line has room for
abbrev pub IsPrintable : Option ℤ → Type 0
IsPrintable = IsValueWithin farthest_value

-- what is told of a field: its value, or that limits made it missing
abbrev pub value_text : Bool → ℕ → Option ℤ → List ℕ
value_text limited index (Some value) = codes " " ++ name_of index ++ codes "=" ++ signed_text value
value_text true index None = codes " " ++ name_of index ++ codes "=limit"
value_text false index None = []

-- what a row line tells of all fields from a number on
abbrev pub values_text : ℕ → ℕ → List (Option ℤ) → List ℕ
values_text limited index [] = []
values_text limited index (value ∷ values) =
    value_text (is_member limited index) index value ++ values_text limited (index + 1) values

-- `row YYYY-MM-DD HH:MM I`, where I is the interval in minutes, and then ` NAME=VALUE` for each field that has a value
-- and ` NAME=limit` for each that limits made missing
unfoldable pub row_line : Row → List ℕ
row_line row =
    codes "row " ++ stamp_text row.stamp ++ codes " " ++ number_text row.interval
    ++ values_text row.limited 0 row.values ++ codes "\n"
