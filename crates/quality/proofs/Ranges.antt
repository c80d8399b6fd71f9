-- How far a calibrated value can lie from 0.
use Rattle.std.proofs.Common.{ℕ, ℤ, pos, negsuc, ◌≤◌, ◌*ℤ◌, ◌≤ℤ◌, ◌<ℤ◌, mul-le-mul, FitsSigned, w32, arith}
use Rattle.std.specs.Prelude.{unsigned_abs}
use Rattle.std.specs.Int.{int_div_euclid}
use Rattle.std.proofs.lemmas.Int.{ints, unsigned_abs-mul, fits_signed_from_abs}
use Rattle.jiff.specs.Words.{IsWithin}
use Rattle.jiff_core.proofs.SignedLemmas.{signed_arith}
use Rattle.settings_file.specs.declared.calibration.Calibration.{Calibration}
use Rattle.settings_file.specs.Calibration.{IsCalibration}
use Rattle.quality.specs.Corrected.{scaled}
use Rattle.station_base.specs.Limits.{farthest_value}

-- a number is within m where its size is at most m
within_from_abs : (m : ℕ) (z : ℤ) → unsigned_abs z ≤ m → IsWithin m z
within_from_abs m z h = (omega (arith, signed_arith), omega (arith, signed_arith))

abs_from_within : (m : ℕ) (z : ℤ) → IsWithin m z → unsigned_abs z ≤ m
abs_from_within m (pos n) h = omega (arith, signed_arith)
abs_from_within m (negsuc n) h = omega (arith, signed_arith)

-- a reading times up to 16
pub product_within : (v n : ℤ) → IsWithin 65535 v → pos 0 ≤ℤ n → n ≤ℤ pos 16 → IsWithin 1048560 (v *ℤ n)
product_within v n within low high =
    let left : unsigned_abs v ≤ 65535 = abs_from_within 65535 v within in
    let right : unsigned_abs n ≤ 16 = abs_from_within 16 n (omega (arith, signed_arith), high) in
    within_from_abs 1048560 (v *ℤ n) (rw (unsigned_abs-mul v n) (mul-le-mul left right))

-- a quotient is no further from 0 than the dividend
quotient_within : (m : ℕ) (a d : ℤ) → pos 0 <ℤ d → IsWithin m a → IsWithin m (int_div_euclid a d)
quotient_within m (pos a) (pos d) h within = (omega (arith, signed_arith), omega (arith, signed_arith))
quotient_within m (negsuc a) (pos d) h within = (omega (arith, signed_arith), omega (arith, signed_arith))
quotient_within m a (negsuc d) h within = absurd (omega (arith, ints))

-- a scaled reading
pub scaled_within : (c : Calibration) (v : ℤ) → IsCalibration c → IsWithin 65535 v → IsWithin 1048560 (scaled c v)
scaled_within c v is within =
    quotient_within 1048560 (v *ℤ c.num) c.den (omega (arith, is.den_from, signed_arith)) (product_within v c.num within is.num_from is.num_to)

-- a small number is stored in 32 bits
pub fits_within : (m : ℕ) (z : ℤ) → m ≤ farthest_value → IsWithin m z → FitsSigned w32 z
fits_within m z small within = fits_signed_from_abs w32 z (omega (arith, abs_from_within m z within))
