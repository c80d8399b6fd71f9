-- Numbers of two bytes at most.
use Rattle.std.proofs.Common.{ℕ, ℤ, Bool, true, false, cond, ◌+ℤ◌, pos, negsuc, neg_ℤ, ◌≡◌, ◌≤◌, ◌<◌, ◌*◌, ◌+◌, ◌≤ℤ◌, Option, Some, None, subst, arith, unsigned_abs}
use Rattle.std.specs.Int.{int_div_euclid, int_min, int_max}
use Rattle.std.proofs.lemmas.Int.{ints}
use Rattle.std.proofs.lemmas.Nat.{div_below}
use Rattle.station_base.specs.RowLine.{IsValueWithin}
use Rattle.soft_record.specs.Readings.{IsPacketReading}

-- between bounds by its magnitude
between : (n : ℕ) (z : ℤ) → unsigned_abs z ≤ n → (neg_ℤ (pos n) ≤ℤ z) × (z ≤ℤ pos n)
between n (pos a) small = (omega (arith, ints), omega (arith, ints))
between n (negsuc a) small = (omega (arith, ints), omega (arith, ints))

-- a reading is a value that a record can hold
pub reading_within : (number : Option ℤ) → IsPacketReading number → IsValueWithin 65535 number
reading_within None small x is = absurd (let no : None ≡ Some x = is in cc)
reading_within (Some n) small x is = between 65535 x (let same : n ≡ x = cc in let P : ℤ → Type 0 = λ (z : ℤ). unsigned_abs z ≤ 65535 in subst P same small)

pub none_within : IsValueWithin 65535 None
none_within x is = absurd (let no : None ≡ Some x = is in cc)

-- the mean of numbers of two bytes has two bytes
pub mean_small : (sum : ℤ) (count : ℕ) → 0 < count → unsigned_abs sum ≤ 65535 * count → unsigned_abs (int_div_euclid sum (pos count)) ≤ 65535
mean_small (pos a) count some small = omega (arith, div_below a count 65536 some (omega (arith, small, some)))
mean_small (negsuc a) count some small = omega (arith, div_below a count 65535 some (omega (arith, small)))

-- what a number more makes of a sum, a least and a greatest one
pub sum_small : (a b : ℤ) (m n : ℕ) → unsigned_abs a ≤ m → unsigned_abs b ≤ n → unsigned_abs (a +ℤ b) ≤ m + n
sum_small (pos a) (pos b) m n left right = omega (arith, ints)
sum_small (pos a) (negsuc b) m n left right = omega (arith, ints)
sum_small (negsuc a) (pos b) m n left right = omega (arith, ints)
sum_small (negsuc a) (negsuc b) m n left right = omega (arith, ints)

one_of : (a b : ℤ) (n : ℕ) (test : Bool) → unsigned_abs a ≤ n → unsigned_abs b ≤ n → unsigned_abs (cond test a b) ≤ n
one_of a b n true left right = left
one_of a b n false left right = right

pub min_small : (a b : ℤ) (n : ℕ) → unsigned_abs a ≤ n → unsigned_abs b ≤ n → unsigned_abs (int_min a b) ≤ n
min_small a b n left right = one_of b a n _ right left

pub max_small : (a b : ℤ) (n : ℕ) → unsigned_abs a ≤ n → unsigned_abs b ≤ n → unsigned_abs (int_max a b) ≤ n
max_small a b n left right = one_of a b n _ left right
