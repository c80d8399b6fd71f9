-- The changes of a settings file: corrections that are in force from a stamp on (this project's profile).
use Rattle.std.specs.Prelude.{◌≤◌, List, [], ◌∷◌, length, All, Bool, nat_le, if◌then◌else◌, Option, Some, None}
use Rattle.std.specs.Option.{option_or}
use Rattle.station_base.specs.CivilMinute.{CivilMinute, IsCivilMinute, minute_of, first_minute}
use Rattle.station_base.specs.LastStamp.{Rises, last_stamp}
use Rattle.settings_file.specs.declared.corrections.Corrections.{Corrections}
use Rattle.settings_file.specs.declared.change.Change.{Change}
use Rattle.settings_file.specs.Corrections.{AreCorrections, nothing_named}

-- A change begins at a stamp of the calendar, and what it names is within its ranges.
pub record IsChange (change : Change) : Type 0 where
  pub from : IsCivilMinute change.from
  pub named : AreCorrections change.named

-- the stamp from which a change is in force
abbrev pub change_start : Change → Option CivilMinute
change_start change = Some change.from

-- the stamp from which the last change is in force
abbrev pub last_start : List Change → Option CivilMinute
last_start changes = last_stamp change_start changes None

-- there are at most 16, each from a later stamp than the one before
pub record AreChanges (changes : List Change) : Type 0 where
  pub few : length changes ≤ 16
  pub each : All IsChange changes
  pub rising : Rises change_start None changes

-- a change is in force at its own stamp and at later ones
abbrev pub is_in_force : CivilMinute → Change → Bool
is_in_force stamp change = nat_le (minute_of change.from) (minute_of stamp)

-- what a change names, where it is in force at a stamp
abbrev pub named_by : {A : Type 0} → (Corrections → Option A) → CivilMinute → Change → Option A
named_by named stamp change = if is_in_force stamp change then named change.named else None

-- what the last of the changes gives that gives anything
abbrev pub last_given : {A : Type 0} → (Change → Option A) → List Change → Option A
last_given given [] = None
last_given given (change ∷ changes) = option_or (last_given given changes) (given change)

-- a change that names nothing, which fills places that hold no change yet
abbrev pub blank_change : Change
blank_change = record { from = first_minute; named = nothing_named }
