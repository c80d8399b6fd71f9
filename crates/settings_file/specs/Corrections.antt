-- The calibrations and limits that a settings file, or one of its changes, names (this project's profile).
use Rattle.std.specs.Prelude.{ℕ, replicate, slice_index_or, Option, None}
use Rattle.settings_file.specs.declared.calibration.Calibration.{Calibration}
use Rattle.settings_file.specs.declared.limits.Limits.{Limits}
use Rattle.settings_file.specs.declared.corrections.Corrections.{Corrections}
use Rattle.settings_file.specs.Named.{AreCalibrations, AreAllLimits}
use Rattle.station_base.specs.Fields.{field_count}

-- the calibration that is named of a field
abbrev pub calibration_in : ℕ → Corrections → Option Calibration
calibration_in field named = slice_index_or named.calibrations field None

-- the limits that are named of a field
abbrev pub limits_in : ℕ → Corrections → Option Limits
limits_in field named = slice_index_or named.limits field None

-- nothing is named of any field
abbrev pub nothing_named : Corrections
nothing_named = record { calibrations = replicate field_count None; limits = replicate field_count None }

-- the numbers are in their ranges
pub record AreCorrections (named : Corrections) : Type 0 where
  pub calibrations : AreCalibrations named.calibrations
  pub limits : AreAllLimits named.limits
