-- Calibrations, with which a value is multiplied by `num`, divided by `den` and raised by `add` (this project's
-- profile).
use Rattle.std.specs.Prelude.{pos, neg_ℤ, ◌≤ℤ◌}
use Rattle.settings_file.specs.declared.calibration.Calibration.{Calibration}

-- the numbers of a calibration are in their ranges
pub record IsCalibration (c : Calibration) : Type 0 where
  pub num_from : pos 0 ≤ℤ c.num
  pub num_to : c.num ≤ℤ pos 16
  pub den_from : pos 1 ≤ℤ c.den
  pub den_to : c.den ≤ℤ pos 10000
  pub add_from : neg_ℤ (pos 900000) ≤ℤ c.add
  pub add_to : c.add ≤ℤ pos 900000

-- each value stays as it is
abbrev pub uncalibrated : Calibration
uncalibrated = record { num = pos 1; den = pos 1; add = pos 0 }
