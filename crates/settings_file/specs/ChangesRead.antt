-- What the key `change` means: tables in the order of the file, each with `from` and what it changes (this project's
-- profile).
use Rattle.std.specs.Prelude.{ℕ, nat_lt, ◌++◌, List, [], ◌∷◌, length, Option, Some}
use Rattle.std.specs.Prelude.{None, Result, Ok, Err, if◌then◌else◌, bytes_eq, codes}
use Rattle.toml.specs.Data.{Data}
use Rattle.station_base.specs.CivilMinute.{CivilMinute}
use Rattle.station_base.specs.LastStamp.{exceeds}
use Rattle.settings_file.specs.declared.fault.SettingsFault.{SettingsFault}
use Rattle.settings_file.specs.declared.fault.SettingsFault.TheVariants.{TooManyChanges, BadFrom, ChangeOrder}
use Rattle.settings_file.specs.declared.fault.Section.TheVariants as section
use Rattle.settings_file.specs.declared.key_place.KeyPlace.{KeyPlace}
use Rattle.settings_file.specs.declared.change.Change.{Change}
use Rattle.settings_file.specs.declared.change_read.ChangeRead.{ChangeRead}
use Rattle.settings_file.specs.Values.{table_of, tables_of, stamp_of}
use Rattle.settings_file.specs.Walk.{Fill, ◌>>=◌, walk}
use Rattle.settings_file.specs.Corrections.{nothing_named}
use Rattle.settings_file.specs.KeyPlace.{unknown_key}
use Rattle.settings_file.specs.Sections.{calibrations_of, limits_section, calibrations_key, all_limits_key}
use Rattle.settings_file.specs.Changes.{last_start}

-- `from` with a stamp, which is judged after all keys, and `calibration` and `limits` with the tables of their fields
abbrev pub change_key : Fill ChangeRead
change_key at key value read =
    if bytes_eq key (codes "calibration") then (do
      fields ← table_of at value
      all ← walk calibrations_key (calibrations_of at.section) None 0 fields read.named.calibrations
      Ok (record read { named = record { calibrations = all; limits = read.named.limits } }))
    else (if bytes_eq key (codes "from") then Ok (record read { from = stamp_of value })
    else (if bytes_eq key (codes "limits") then (do
      fields ← table_of at value
      all ← walk all_limits_key (limits_section at.section) None 0 fields read.named.limits
      Ok (record read { named = record { calibrations = read.named.calibrations; limits = all } }))
    else Err (unknown_key at)))

-- a change of which no key was read yet
abbrev pub nothing_read : ChangeRead
nothing_read = record { from = None; named = nothing_named }

-- the stamp of change n, where there is one
abbrev pub some_start : ℕ → Option CivilMinute → Result CivilMinute SettingsFault
some_start n (Some from) = Ok from
some_start n None = Err (BadFrom n)

-- the stamp of change n, where it exceeds that of the change before
abbrev pub later_start : ℕ → Option CivilMinute → CivilMinute → Result CivilMinute SettingsFault
later_start n last from = if exceeds last (Some from) then Ok from else Err (ChangeOrder n)

-- change n of the file, with the stamp of the change before
abbrev pub change_of : KeyPlace → ℕ → Option CivilMinute → Data → Result Change SettingsFault
change_of at n last value = do
  keys ← table_of at value
  read ← walk change_key (section.Change n) None 0 keys nothing_read
  named ← some_start n read.from
  from ← later_start n last named
  Ok (record { from = from; named = read.named })

-- the changes so far, and those that are left
abbrev pub changes_from : KeyPlace → List Change → List Data → Result (List Change) SettingsFault
changes_from at changes [] = Ok changes
changes_from at changes (value ∷ values) = do
  change ← change_of at (length changes) (last_start changes) value
  changes_from at (changes ++ change ∷ []) values

-- at most 16 changes
abbrev pub at_most_16 : List Data → Result (List Data) SettingsFault
at_most_16 values = if nat_lt 16 (length values) then Err TooManyChanges else Ok values

-- the changes of a value, which is a list of at most 16 tables
abbrev pub changes_of : KeyPlace → Data → Result (List Change) SettingsFault
changes_of at value = do
  tables ← tables_of at value
  few ← at_most_16 tables
  changes_from at [] few
