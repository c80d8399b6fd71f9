-- How near the total of fractions is to their sum.
use Rattle.std.proofs.Common.{ℕ, ◌≡◌, ◌<◌, ◌≤◌, ◌+◌, ◌*◌, ◌/◌, List, [], ◌∷◌, length, subst, arith}
use Rattle.std.specs.List.{AllByRecursion}
use Rattle.std.proofs.Math.Nat.{div-mul-le_self, mul-le-mul, lt-div-mul-add}
use Rattle.climate_table.specs.declared.totals.Fraction.{Fraction}
use Rattle.climate_table.specs.Total.{IsFraction, TotalIsNear, total_of, sum_of}

-- a product of two that are not 0
some : (d e : ℕ) → 1 ≤ d → 1 ≤ e → 1 ≤ d * e
some d e p q = mul-le-mul p q

denominator : (fractions : List Fraction) → AllByRecursion IsFraction fractions → 1 ≤ (sum_of fractions).denominator
denominator [] all = omega arith
denominator (f ∷ more) all = some f.denominator (sum_of more).denominator all.0.1 (denominator more all.1)

-- one more fraction n / d in front of m / e, of which f is the thousandths rounded down and t the total so far
least_more : (n d m e f t : ℕ) → f * d ≤ 100 * n → t * e ≤ 100 * m → (f + t) * (d * e) ≤ 100 * (n * e + m * d)
least_more n d m e f t one more =
    let h1 : (f * d) * e ≤ (100 * n) * e = mul-le-mul one (omega arith) in
    let h2 : (t * e) * d ≤ (100 * m) * d = mul-le-mul more (omega arith) in
    omega (arith, h1, h2)

less_more : (n d m e f t k : ℕ) → 1 ≤ e → 100 * n < (f + 1) * d → 100 * m ≤ (t + k) * e
    → 100 * (n * e + m * d) < (f + t + (1 + k)) * (d * e)
less_more n d m e f t k some one more =
    let h1 : (100 * n + 1) * e ≤ ((f + 1) * d) * e = mul-le-mul (omega (arith, one)) (omega arith) in
    let h2 : (100 * m) * d ≤ ((t + k) * e) * d = mul-le-mul more (omega arith) in
    omega (arith, h1, h2, some)

pub near : (fractions : List Fraction) → AllByRecursion IsFraction fractions → TotalIsNear (total_of fractions) fractions
near [] all = record { least = omega arith; most = omega arith; less = λ none. absurd (omega (arith, none)) }
near (one ∷ more) all =
    let rest = near more all.1 in
    let n = one.numerator in
    let d = one.denominator in
    let m = (sum_of more).numerator in
    let e = (sum_of more).denominator in
    let t = total_of more in
    let f = 100 * n / d in
    let below : f * d ≤ 100 * n = div-mul-le_self (100 * n) d in
    let above : 100 * n < (f + 1) * d = omega (arith, lt-div-mul-add {a = 100 * n} {b = d} all.0.1) in
    let less : 100 * (n * e + m * d) < (f + t + (1 + length more)) * (d * e) =
    less_more n d m e f t (length more) (denominator more all.1) above rest.most in
    let same : f + t + (1 + length more) ≡ f + t + length (one ∷ more) = omega arith in
    let P : ℕ → Type 0 = λ (k : ℕ). 100 * (n * e + m * d) < k * (d * e) in
    let strict : 100 * (n * e + m * d) < (f + t + length (one ∷ more)) * (d * e) = subst P same less in
    record {
      least = least_more n d m e f t below rest.least;
      most = omega (arith, strict);
      less = λ _. strict;
    }
