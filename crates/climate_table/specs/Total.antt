-- The total of fractions, and how near it is to their sum. (These are this project's own.)
use Rattle.std.specs.Prelude.{ℕ, ◌<◌, ◌≤◌, ◌+◌, ◌*◌, ◌/◌, ◌^◌, List, [], ◌∷◌, length}
use Rattle.climate_table.specs.declared.totals.Fraction.{Fraction}

-- a numerator below 2^48 and a denominator that is not 0
abbrev pub IsFraction : Fraction → Type 0
IsFraction f = (f.numerator < 2 ^ 48) × (1 ≤ f.denominator)

-- a hundred times the fraction, rounded down
abbrev pub thousandths : Fraction → ℕ
thousandths f = 100 * f.numerator / f.denominator

-- the thousandths of all fractions, added
abbrev pub total_of : List Fraction → ℕ
total_of [] = 0
total_of (f ∷ more) = thousandths f + total_of more

-- two fractions as one, their sum
abbrev pub plus : Fraction → Fraction → Fraction
plus f g = record {
  numerator = f.numerator * g.denominator + g.numerator * f.denominator;
  denominator = f.denominator * g.denominator;
}

-- the exact sum, as one fraction
abbrev pub sum_of : List Fraction → Fraction
sum_of [] = record { numerator = 0; denominator = 1 }
sum_of (f ∷ more) = plus f (sum_of more)

-- A hundred times the sum is at least the total, and at most the total and one more for each fraction; it is less than
-- that where there is a fraction.
pub record TotalIsNear (total : ℕ) (fractions : List Fraction) : Type 0 where
  pub least : total * (sum_of fractions).denominator ≤ 100 * (sum_of fractions).numerator
  pub most : 100 * (sum_of fractions).numerator ≤ (total + length fractions) * (sum_of fractions).denominator
  pub less : 0 < length fractions
      → 100 * (sum_of fractions).numerator < (total + length fractions) * (sum_of fractions).denominator
