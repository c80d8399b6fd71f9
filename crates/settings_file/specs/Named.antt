-- For each field by its number a calibration, or limits, where they are named.
use Rattle.std.specs.Prelude.{ℕ, ◌≡◌, List, length, slice_index_or, Option, None, IfSome}
use Rattle.settings_file.specs.declared.calibration.Calibration.{Calibration}
use Rattle.settings_file.specs.declared.limits.Limits.{Limits}
use Rattle.settings_file.specs.Calibration.{IsCalibration}
use Rattle.settings_file.specs.Limits.{AreLimits}
use Rattle.station_base.specs.Fields.{field_count}

-- there is a place for each of the 37 fields, and what is named has its numbers in their ranges
pub record AreCalibrations (all : List (Option Calibration)) : Type 0 where
  pub count : length all ≡ field_count
  pub each : (field : ℕ) → IfSome (slice_index_or all field None) IsCalibration

-- there is a place for each of the 37 fields, and the limits that are named are in their ranges
pub record AreAllLimits (all : List (Option Limits)) : Type 0 where
  pub count : length all ≡ field_count
  pub each : (field : ℕ) → IfSome (slice_index_or all field None) AreLimits
