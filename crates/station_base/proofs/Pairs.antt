-- The table of the two digits of each number below 100, by computing all of it.
use Rattle.std.proofs.Common.{◌≡◌, ℕ, zero, suc, ◌+◌, ◌-◌, ◌*◌, ◌/◌, ◌%◌, ◌<◌, ◌&&◌, Bool, true, T, eqb, get_or, [], ◌∷◌, arith, eq-zero-or-pos, eqb→eq, inl, inr, refl}
use lib.Ieee.Fits.{and_l, and_r}
use Rattle.station_base.specs.Digits.{digits}
use Rattle.station_base.specs.declared.digits.TheConstants.{PAIRS}

-- whether the table has the digits of each number below this one
abbrev are_pairs : ℕ → Bool
are_pairs zero = true
are_pairs (suc n) = (eqb (get_or PAIRS (2 * n) 0) (48 + n / 10) && eqb (get_or PAIRS (2 * n + 1) 0) (48 + n % 10)) && are_pairs n

below : (bound n : ℕ) → T (are_pairs bound) → n < bound → (get_or PAIRS (2 * n) 0 ≡ 48 + n / 10) × (get_or PAIRS (2 * n + 1) 0 ≡ 48 + n % 10)
below zero n all within = absurd (omega arith)
below (suc bound) n all within =
    elim (eq-zero-or-pos (bound - n)) [
      | inl none ↦ let same : n ≡ bound = omega arith in let here = and_l _ (are_pairs bound) all in rw same (eqb→eq _ _ (and_l _ _ here), eqb→eq _ _ (and_r _ _ here))
      | inr some ↦ below bound n (and_r _ (are_pairs bound) all) (omega arith)
    ]

-- so it has them of each
pub pair_at : (n : ℕ) → n < 100 → get_or PAIRS (2 * n) 0 ∷ get_or PAIRS (2 * n + 1) 0 ∷ [] ≡ digits 2 n
pair_at n within =
    let pair = below 100 n tt within in
    let tens : n / 10 % 10 ≡ n / 10 = omega arith in
    let units : n / 1 % 10 ≡ n % 10 = omega arith in
    rw (pair.0, pair.1, tens, units) refl
