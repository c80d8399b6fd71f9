-- The text of a number of at most four digits.
use Rattle.std.proofs.Common.{◌≡◌, ℕ, ◌/◌, ◌%◌, ◌<◌, ◌≤◌, ◌∙◌, refl, arith}
use Rattle.std.proofs.lemmas.Fmt.{decimal_digit}
use Rattle.itoa.proofs.Decimal.{decimal_two, decimal_pair}
use Rattle.station_base.specs.Digits.{digits}
use Rattle.station_base.specs.NumberText.{number_text}

pub digits_one : (n : ℕ) → n < 10 → number_text n ≡ digits 1 n
unfolding number_text
digits_one n small =
    let units : n / 1 % 10 ≡ n = omega arith in
    decimal_digit n small ∙ rw units refl

pub digits_two : (n : ℕ) → 10 ≤ n → n < 100 → number_text n ≡ digits 2 n
unfolding number_text
digits_two n large small =
    let tens : n / 10 % 10 ≡ n / 10 = omega arith in
    let units : n / 1 % 10 ≡ n % 10 = omega arith in
    decimal_two n large small ∙ rw (tens, units) refl

pub digits_three : (n : ℕ) → 100 ≤ n → n < 1000 → number_text n ≡ digits 3 n
unfolding number_text
digits_three n large small =
    let hundreds : n / 100 % 10 ≡ n / 100 = omega arith in
    let tens : n / 10 % 10 ≡ n % 100 / 10 = omega arith in
    let units : n / 1 % 10 ≡ n % 100 % 10 = omega arith in
    decimal_pair n large (omega arith) ∙ rw (decimal_digit (n / 100) (omega arith), hundreds, tens, units) refl

pub digits_four : (n : ℕ) → 1000 ≤ n → n < 10000 → number_text n ≡ digits 4 n
unfolding number_text
digits_four n large small =
    let thousands : n / 1000 % 10 ≡ n / 100 / 10 = omega arith in
    let hundreds : n / 100 % 10 ≡ n / 100 % 10 = refl in
    let tens : n / 10 % 10 ≡ n % 100 / 10 = omega arith in
    let units : n / 1 % 10 ≡ n % 100 % 10 = omega arith in
    decimal_pair n (omega arith) (omega arith) ∙ rw (decimal_two (n / 100) (omega arith) (omega arith), thousands, tens, units) refl

pub ruleset few_digits = (digits_one, digits_two, digits_three, digits_four)
