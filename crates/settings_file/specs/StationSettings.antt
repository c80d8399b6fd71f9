-- What a settings file settles (this project's profile).
use Rattle.std.specs.Prelude.{ℕ, ◌≤◌, List, []}
use Rattle.std.specs.Option.{option_or, unwrap_or}
use Rattle.station_base.specs.CivilMinute.{CivilMinute}
use Rattle.station_base.specs.Period.{IsPeriod}
use Rattle.settings_file.specs.declared.calibration.Calibration.{Calibration}
use Rattle.settings_file.specs.declared.limits.Limits.{Limits}
use Rattle.settings_file.specs.declared.corrections.Corrections.{Corrections}
use Rattle.settings_file.specs.declared.change.Change.{Change}
use Rattle.settings_file.specs.Calibration.{uncalibrated}
use Rattle.settings_file.specs.Limits.{unlimited}
use Rattle.settings_file.specs.Corrections.{calibration_in, limits_in, nothing_named, AreCorrections}
use Rattle.settings_file.specs.Changes.{AreChanges, named_by, last_given}
use Rattle.station_base.specs.Limits.{most_rows}

-- the period in minutes, the most rows, what the file names of each field, and what its changes name from a stamp on
pub record StationSettings : Type 0 where
  pub period : ℕ
  pub most : ℕ
  pub own : Corrections
  pub changes : List Change

-- The calibration in force at a stamp. It is that of the last change up to the stamp that names one of the field, else
-- the file's, else none.
unfoldable pub calibration_of : StationSettings → ℕ → CivilMinute → Calibration
calibration_of settings field stamp =
    unwrap_or (option_or
    (last_given (named_by (calibration_in field) stamp) settings.changes) (calibration_in field settings.own))
    uncalibrated

-- The limits in force at a stamp. They are those of the last change up to it that names limits of the field, else the
-- file's, else none.
unfoldable pub limits_of : StationSettings → ℕ → CivilMinute → Limits
limits_of settings field stamp =
    unwrap_or (option_or
    (last_given (named_by (limits_in field) stamp) settings.changes) (limits_in field settings.own))
    unlimited

-- each number is in its range, and the changes are in order
pub record AreSettings (settings : StationSettings) : Type 0 where
  pub period : IsPeriod settings.period
  pub most_from : 1 ≤ settings.most
  pub most_to : settings.most ≤ most_rows
  pub own : AreCorrections settings.own
  pub changes : AreChanges settings.changes

-- a period of 5 minutes, 1,048,576 rows, no calibration, no limits and no change
abbrev pub plain_settings : StationSettings
plain_settings = record { period = 5; most = most_rows; own = nothing_named; changes = [] }
