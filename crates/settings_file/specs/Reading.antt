-- What a settings file says: its settings, or the first fault (this project's profile, over TOML 1.1).
use Rattle.std.specs.Prelude.{pos, unsigned_abs, List, ℕ, Option, Some, None}
use Rattle.std.specs.Prelude.{Result, Ok, Err, if◌then◌else◌, bytes_eq, codes}
use Rattle.std.specs.Str.{is_utf8}
use Rattle.toml.specs.Data.{Members}
use Rattle.toml.specs.Parse.{parse_document}
use Rattle.settings_file.specs.declared.fault.SettingsFault.{SettingsFault}
use Rattle.settings_file.specs.declared.fault.SettingsFault.TheVariants.{Syntax}
use Rattle.settings_file.specs.declared.fault.Section.TheVariants as section
use Rattle.settings_file.specs.StationSettings.{StationSettings, plain_settings}
use Rattle.settings_file.specs.Values.{between, whole_number, table_of, period_in_value}
use Rattle.settings_file.specs.Walk.{Fill, ◌>>=◌, walk}
use Rattle.settings_file.specs.KeyPlace.{unknown_key}
use Rattle.settings_file.specs.Sections.{calibrations_key, all_limits_key}
use Rattle.settings_file.specs.ChangesRead.{changes_of}
use Rattle.station_base.specs.Limits.{most_rows}

-- `calibration` and `limits` with the tables of their fields, `change` with its changes, `period`, and `rows` from 1 to
-- 1,048,576
abbrev pub settings_key : Fill StationSettings
settings_key at key value s =
    if bytes_eq key (codes "calibration") then (do
      fields ← table_of at value
      all ← walk calibrations_key section.Calibration None 0 fields s.own.calibrations
      Ok (record s { own = record { calibrations = all; limits = s.own.limits } }))
    else (if bytes_eq key (codes "change") then (do
      changes ← changes_of at value
      Ok (record s { changes = changes }))
    else (if bytes_eq key (codes "limits") then (do
      fields ← table_of at value
      all ← walk all_limits_key section.Limits None 0 fields s.own.limits
      Ok (record s { own = record { calibrations = s.own.calibrations; limits = all } }))
    else (if bytes_eq key (codes "period") then (do
      minutes ← period_in_value value
      Ok (record s { period = minutes }))
    else (if bytes_eq key (codes "rows") then (do
      rows ← whole_number (between (pos 1) (pos most_rows)) at value
      Ok (record s { most = unsigned_abs rows }))
    else Err (unknown_key at)))))

-- the document that TOML makes of the bytes, which are to be UTF-8
abbrev pub document_of : List ℕ → Option Members
document_of bytes = if is_utf8 bytes then parse_document bytes else None

-- the settings of a document, where there is one
abbrev pub settings_of_document : Option Members → Result StationSettings SettingsFault
settings_of_document None = Err Syntax
settings_of_document (Some keys) = walk settings_key section.Top None 0 keys plain_settings

-- the settings of a file, or its first fault
unfoldable pub settings_of : List ℕ → Result StationSettings SettingsFault
settings_of bytes = settings_of_document (document_of bytes)
