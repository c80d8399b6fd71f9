-- The keys that name a field (this project's names, near WeeWX's).
use Rattle.std.specs.Prelude.{ℕ, List, Result}
use Rattle.std.specs.Option.{ok_or}
use Rattle.station_base.specs.Fields.{field_named}
use Rattle.settings_file.specs.declared.fault.SettingsFault.{SettingsFault}
use Rattle.settings_file.specs.declared.key_place.KeyPlace.{KeyPlace}
use Rattle.settings_file.specs.KeyPlace.{unknown_key}

-- the field of exactly this name, or a fault of the key
abbrev pub field_at : KeyPlace → List ℕ → Result ℕ SettingsFault
field_at at name = ok_or (field_named name) (unknown_key at)
