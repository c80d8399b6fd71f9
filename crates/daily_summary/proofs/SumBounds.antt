-- The numbers of sums.
use Rattle.std.proofs.Common.{◌≡◌, ℕ, ℤ, pos, ◌+◌, ◌*◌, ◌≤◌, ◌<◌, ◌^◌, refl, ◌∙◌, arith}
use Rattle.std.specs.Prelude.{◌+ℤ◌, ◌*ℤ◌, unsigned_abs, FitsSigned, Some}
use Rattle.std.specs.Int.{w32, w64, cast_signed, cast_unsigned}
use Rattle.std.proofs.Math.Nat.{mul-le-mul_right}
use Rattle.std.proofs.lemmas.Bool.Decides.{nat_tests}
use Rattle.station_base.specs.Period.{IsPeriod}
use Rattle.station_base.specs.declared.row.Row.{Row}
use Rattle.station_base.proofs.Periods.{period_bound}
use Rattle.daily_summary.specs.declared.field_sum.FieldSum.{FieldSum}
use Rattle.daily_summary.specs.Bounds.{IsSum, IsSumOf}
use Rattle.daily_summary.specs.Joined.{joined, sum_of_row}
use Rattle.std.proofs.lemmas.Int.{ints, fits_signed_from_abs, to_z-of_z, unsigned_abs-mul}
use Rattle.station_base.specs.RowLine.{IsPrintable}
use Rattle.station_base.specs.Limits.{farthest_value}

-- a sum is no farther from 0 than its parts together
pub abs_add : (a b : ℤ) (m n : ℕ) → unsigned_abs a ≤ m → unsigned_abs b ≤ n → unsigned_abs (a +ℤ b) ≤ m + n
abs_add a b m n ha hb = omega (arith, ints)

pub near : (z : ℤ) → IsPrintable (Some z) → unsigned_abs z ≤ farthest_value
near z p = let within = p z refl in omega (arith, ints, within)

pub fits_below : (z : ℤ) (m : ℕ) → unsigned_abs z ≤ m → m < 2 ^ 63 → FitsSigned w64 z
fits_below z m h small = fits_signed_from_abs w64 z (omega arith)

-- a value times the seconds of its interval
pub near_times : (z : ℤ) (n : ℕ) → unsigned_abs z ≤ farthest_value → unsigned_abs (z *ℤ pos n) ≤ farthest_value * n
near_times z n h = let m : unsigned_abs z * n ≤ farthest_value * n = mul-le-mul_right n h in rw (unsigned_abs-mul z (pos n)) m

-- a value that was cast wider and back
pub same_32 : (a b : ℤ) → FitsSigned w32 b → a ≡ cast_signed w32 (cast_unsigned w32 b) → a ≡ b
same_32 a b fits e = e ∙ to_z-of_z w32 b fits

-- the seconds of an interval
pub least_period : (minutes : ℕ) → IsPeriod minutes → 1 ≤ minutes
least_period minutes is = grind (arith, nat_tests)

-- the sum of one value
pub row_sum : (row : Row) (z : ℤ) → IsPrintable (Some z) → IsPeriod row.interval → IsSumOf 1 (sum_of_row row z)
row_sum row z printable period =
    let small : unsigned_abs z ≤ farthest_value = near z printable in
    let short = least_period row.interval period in
    let long = period_bound row.interval period in
    record {
      sum_is = record { some = omega arith; sum = small; shortest = omega arith; longest = omega (arith, long); wsum = near_times z (60 * row.interval) small };
      count = omega arith;
    }

-- two sums together
pub both_sums : (a b : FieldSum) → IsSum a → IsSum b → IsSum (joined a b)
both_sums a b one two = record {
  some = omega (arith, one.some);
  sum = omega (arith, abs_add a.sum b.sum _ _ one.sum two.sum);
  shortest = omega (arith, one.shortest, two.shortest);
  longest = omega (arith, one.longest, two.longest);
  wsum = omega (arith, abs_add a.wsum b.wsum _ _ one.wsum two.wsum);
}
