-- What the values of the file may be (this project's profile; the periods are those of the console's command SETPER).
use Rattle.std.specs.Prelude.{ℕ, ℤ, pos, int_le, ◌&&◌, if◌then◌else◌, List, [], ◌∷◌, Option, None, Result, Ok, Err}
use Rattle.toml.specs.Data.{Data, string, integer, array, table, Items, no_items, item, Members}
use Rattle.station_base.specs.CivilMinute.{CivilMinute}
use Rattle.station_base.specs.Period.{is_period}
use Rattle.station_base.specs.Stamp.{stamp_of_text}
use Rattle.settings_file.specs.declared.fault.SettingsFault.{SettingsFault}
use Rattle.settings_file.specs.declared.fault.SettingsFault.TheVariants.{BadPeriod}
use Rattle.settings_file.specs.declared.key_place.KeyPlace.{KeyPlace}
use Rattle.settings_file.specs.declared.range.Range.{Range}
use Rattle.settings_file.specs.KeyPlace.{bad_number}

-- the numbers from one to another
abbrev pub between : ℤ → ℤ → Range
between least greatest = record { least = least; greatest = greatest }

-- the whole number that a value is, where it is one in the range
abbrev pub whole_number : Range → KeyPlace → Data → Result ℤ SettingsFault
whole_number range at (integer n) =
    if int_le range.least n && int_le n range.greatest then Ok n else Err (bad_number at)
whole_number range at value = Err (bad_number at)

-- the table that a value is, where it is one
abbrev pub table_of : KeyPlace → Data → Result Members SettingsFault
table_of at (table members) = Ok members
table_of at value = Err (bad_number at)

-- the period in minutes that a value is, where it is one
abbrev pub period_in_value : Data → Result ℕ SettingsFault
period_in_value (integer (pos minutes)) = if is_period minutes then Ok minutes else Err BadPeriod
period_in_value value = Err BadPeriod

-- the values of an array, in order
abbrev pub members_of : Items → List Data
members_of no_items = []
members_of (item value values) = value ∷ members_of values

-- the values of the array that a value is, where it is one
abbrev pub tables_of : KeyPlace → Data → Result (List Data) SettingsFault
tables_of at (array values) = Ok (members_of values)
tables_of at value = Err (bad_number at)

-- the stamp that a value is the text of, as YYYY-MM-DD HH:MM
abbrev pub stamp_of : Data → Option CivilMinute
stamp_of (string text) = stamp_of_text text
stamp_of value = None
