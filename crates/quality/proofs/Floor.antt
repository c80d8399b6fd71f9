-- Division that rounds towards the lesser number.
use Rattle.std.proofs.Common.{ℤ, pos, negsuc, ◌+ℤ◌, ◌*ℤ◌, ◌≤ℤ◌, ◌<ℤ◌, arith}
use Rattle.std.specs.Int.{int_div_euclid}
use Rattle.std.proofs.lemmas.Int.{ints}
use Rattle.jiff_core.proofs.SignedLemmas.{signed_arith}

-- times the divisor the quotient is at most the dividend
pub quotient_at_most : (a d : ℤ) → pos 0 <ℤ d → (int_div_euclid a d *ℤ d) ≤ℤ a
quotient_at_most (pos a) (pos d) h = omega (arith, signed_arith)
quotient_at_most (negsuc a) (pos d) h = omega (arith, signed_arith)
quotient_at_most a (negsuc d) h = absurd (omega (arith, ints))

-- and with the divisor once more it is above the dividend
pub quotient_greatest : (a d : ℤ) → pos 0 <ℤ d → a <ℤ ((int_div_euclid a d *ℤ d) +ℤ d)
quotient_greatest (pos a) (pos d) h = omega (arith, signed_arith)
quotient_greatest (negsuc a) (pos d) h = omega (arith, signed_arith)
quotient_greatest a (negsuc d) h = absurd (omega (arith, ints))
