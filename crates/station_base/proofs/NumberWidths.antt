-- Numbers in text: their digits, and how long they are.
use Rattle.std.proofs.Common.{◌≡◌, ℕ, suc, ℤ, pos, negsuc, ◌+◌, ◌/◌, ◌^◌, ◌<◌, ◌≤◌, length, arith, lit<, to_z, of_z, w32}
use Rattle.itoa.proofs.Decimal.{length_one, length_two, length_pair, length_four}
use Rattle.std.proofs.lemmas.Fmt.{length-decimal-le}
use Rattle.jiff.specs.Words.{IsWithin}
use Rattle.jiff_core.proofs.SignedLemmas.{signed_arith, back_small}
use Rattle.station_base.specs.NumberText.{number_text, signed_text}
use Rattle.station_base.specs.Limits.{farthest_value}

-- how many digits a number has, by where it lies
pub width_one : (n : ℕ) → n < 10 → length (number_text n) ≡ 1
unfolding number_text
width_one n small = length_one n small

pub width_two : (n : ℕ) → 10 ≤ n → n < 100 → length (number_text n) ≡ 2
unfolding number_text
width_two n large small = length_two n large small

pub width_three : (n : ℕ) → 100 ≤ n → n < 1000 → length (number_text n) ≡ 3
unfolding number_text
width_three n large small = omega (arith, length_pair n large (omega arith), length_one (n / 100) (omega arith))

pub width_four : (n : ℕ) → 1000 ≤ n → n < 10000 → length (number_text n) ≡ 4
unfolding number_text
width_four n large small = omega (arith, length_pair n (omega arith) (omega arith), length_two (n / 100) (omega arith) (omega arith))

pub ruleset few_widths = (width_one, width_two, width_three, width_four)

pub width_more : (n : ℕ) → 10000 ≤ n → n < 2 ^ 32 → length (number_text n) ≡ length (number_text (n / 10000)) + 4
unfolding number_text
width_more n large small = length_four n large (omega arith)

-- a number of 32 bits has at most ten digits
pub number_text_width : (n : ℕ) → n < 2 ^ 32 → length (number_text n) ≤ 10
unfolding number_text
number_text_width n small = length-decimal-le 10 n (lit< tt) (omega arith) (omega arith)

-- a number below 1,000 has at most three digits
pub number_text_short : (n : ℕ) → n < 1000 → length (number_text n) ≤ 3
unfolding number_text
number_text_short n small = length-decimal-le 3 n (lit< tt) small (omega arith)

-- one up to two million has at most seven, and eight with its sign
pub signed_text_width : (z : ℤ) → IsWithin farthest_value z → length (signed_text z) ≤ 8
unfolding number_text
signed_text_width (pos n) within = omega (arith, length-decimal-le 7 n (lit< tt) (omega (arith, signed_arith)) (omega (arith, signed_arith)))
signed_text_width (negsuc n) within = omega (arith, length-decimal-le 7 (suc n) (lit< tt) (omega (arith, signed_arith)) (omega (arith, signed_arith)))

-- a number that a row line has room for is stored in 32 bits
pub printable_back : (z : ℤ) → IsWithin farthest_value z → to_z w32 (of_z w32 z) ≡ z
printable_back (pos n) within = back_small w32 (pos n) (omega (arith, signed_arith))
printable_back (negsuc n) within = back_small w32 (negsuc n) (omega (arith, signed_arith))
