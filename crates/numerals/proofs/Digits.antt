-- Digits that are read one after another, how large a number they write, and when they are numerals.
use Rattle.std.proofs.Common.{◌≡◌, ℕ, ◌*◌, ◌^◌, ◌<◌, ◌≤◌, true, List, [], ◌∷◌, take, length, arith, ap, ◌∙◌, sym, refl}
use Rattle.std.proofs.Math.Nat.{pow-le-pow_left, pow-le-pow_right}
use Rattle.std.proofs.lemmas.Int.Digits.{digits_value-lt}
use Rattle.std.proofs.lemmas.List.{length-take-le, take_all}
use Rattle.std.proofs.lemmas.Nat.{mul-le}
use Rattle.std.proofs.lemmas.Bool.{and_parts, lt-ltb, le-leb, ltb-true, leb-true}
use Rattle.std.specs.Char.{is_digit, digit_value}
use Rattle.std.specs.List.{list_all}
use Rattle.std.specs.Str.Parse.{AllDigits, digits_value}
use Rattle.std.specs.Prelude.{Some, nat_lt, nat_le, ◌&&◌}
use Rattle.numerals.specs.Numeral.{number_in, is_short_numeral, WritesNumber}
use Rattle.numerals.proofs.PassedTests.{only_if_some}

-- digits that are so, and so many, are a numeral
pub is_numeral_of_digits : (base : ℕ) (digits : List ℕ) → AllDigits base digits → list_all (λ digit. is_digit digit base) digits ≡ true
is_numeral_of_digits base [] all = refl
is_numeral_of_digits base (digit ∷ digits) all = rw (lt-ltb (digit_value digit) base all.0) (is_numeral_of_digits base digits all.1)

pub number_in_digits : (base most : ℕ) (digits : List ℕ) → 0 < length digits → length digits ≤ most → AllDigits base digits → number_in base most digits ≡ Some (digits_value base digits)
number_in_digits base most digits some few all =
    rw (lt-ltb 0 (length digits) some, le-leb (length digits) most few, is_numeral_of_digits base digits all)

-- each digit of a numeral is one
all_digits_of : (base : ℕ) (digits : List ℕ) → list_all (λ digit. is_digit digit base) digits ≡ true → AllDigits base digits
all_digits_of base [] all = tt
all_digits_of base (digit ∷ digits) all =
    let both : (is_digit digit base ≡ true) × (list_all (λ d. is_digit d base) digits ≡ true) = and_parts (is_digit digit base) (list_all (λ d. is_digit d base) digits) all in
    (ltb-true (digit_value digit) base both.0, all_digits_of base digits both.1)

-- what is read is what the digits write
pub number_in_writes : (base most : ℕ) (digits : List ℕ) (n : ℕ) → number_in base most digits ≡ Some n → WritesNumber base most digits n
number_in_writes base most digits n read =
    let chosen : (is_short_numeral base most digits ≡ true) × (digits_value base digits ≡ n) = only_if_some (is_short_numeral base most digits) (digits_value base digits) n read in
    let halves : (nat_lt 0 (length digits) && nat_le (length digits) most ≡ true) × (list_all (λ digit. is_digit digit base) digits ≡ true) = and_parts (nat_lt 0 (length digits) && nat_le (length digits) most) (list_all (λ digit. is_digit digit base) digits) chosen.0 in
    let counts : (nat_lt 0 (length digits) ≡ true) × (nat_le (length digits) most ≡ true) = and_parts (nat_lt 0 (length digits)) (nat_le (length digits) most) halves.0 in
    record {
      numeral = (ltb-true 0 (length digits) counts.0, all_digits_of base digits halves.1);
      short = leb-true (length digits) most counts.1;
      value = chosen.1;
    }

-- what digits write is read
pub number_in-writes : (base most : ℕ) (digits : List ℕ) (n : ℕ) → WritesNumber base most digits n → number_in base most digits ≡ Some n
number_in-writes base most digits n writes =
    number_in_digits base most digits writes.numeral.0 writes.short writes.numeral.1 ∙ ap Some writes.value

-- these are the first digits, so many, and this is the number that they write
pub record AreRead (base i n : ℕ) (digits : List ℕ) : Type 0 where
  pub within : i ≤ length digits
  pub all : AllDigits base (take i digits)
  pub value : n ≡ digits_value base (take i digits)

-- so many digits write a number below that power of the base, and of a longer count
pub below : (base most i n : ℕ) (digits : List ℕ) → 0 < base → i ≤ most → AreRead base i n digits → n < base ^ most
below base most i n digits positive few are =
    let long : length (take i digits) ≡ i = length-take-le i digits are.within in
    let small : digits_value base (take i digits) < base ^ length (take i digits) = digits_value-lt base (take i digits) are.all in
    let at : digits_value base (take i digits) < base ^ i = rw long at small in
    omega (arith, are.value, pow-le-pow_right {n = base} positive few)

-- of at most ten digits all but the last write a number below 16 ^ 9
pub small_front : (base i n : ℕ) (digits : List ℕ) → 0 < base → base ≤ 16 → i ≤ 9 → AreRead base i n digits → n < 68719476736
small_front base i n digits positive low few are =
    omega (arith, below base 9 i n digits positive few are, pow-le-pow_left {n = base} {m = 16} low 9)

-- and with the last they write one that 64 bits hold
pub one_more : (base n : ℕ) → base ≤ 16 → n < 68719476736 → n * base ≤ 1099511627760
one_more base n low small = mul-le n base 68719476735 16 (omega arith) low

-- what is read when all digits are
pub whole_number : (base most i n : ℕ) (digits : List ℕ) → 0 < length digits → length digits ≤ most → i ≡ length digits → AreRead base i n digits → Some n ≡ number_in base most digits
whole_number base most i n digits some few end are =
    let whole : take i digits ≡ digits = ap (λ (k : ℕ). take k digits) end ∙ take_all (length digits) digits (omega arith) in
    sym (number_in-writes base most digits n (record {
      numeral = (some, rw whole at are.all);
      short = few;
      value = sym (are.value ∙ ap (digits_value base) whole);
    }))
