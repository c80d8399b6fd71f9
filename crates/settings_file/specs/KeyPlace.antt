-- Where a key stands in the file, and the faults that name it (this project's profile).
use Rattle.std.specs.Prelude.{ℕ, ◌^◌, ◌-◌, min, Option}
use Rattle.settings_file.specs.declared.fault.Section.{Section}
use Rattle.settings_file.specs.declared.fault.SettingsFault.{SettingsFault}
use Rattle.settings_file.specs.declared.fault.SettingsFault.TheVariants.{UnknownKey, BadNumber}
use Rattle.settings_file.specs.declared.key_place.KeyPlace.{KeyPlace}

-- the key at a place of a table, in a section and, in the table of a field, of that field
abbrev pub key_at : Section → Option ℕ → ℕ → KeyPlace
key_at section field place = record { section = section; field = field; index = min place (2 ^ 32 - 1) }

-- the fault of an unknown key at this place
abbrev pub unknown_key : KeyPlace → SettingsFault
unknown_key at = UnknownKey at.section at.field at.index

-- the fault of a key at this place whose number is none, or out of its range
abbrev pub bad_number : KeyPlace → SettingsFault
bad_number at = BadNumber at.section at.field at.index
