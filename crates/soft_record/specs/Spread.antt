-- Numbers that are summed up one by one.
use Rattle.std.specs.Prelude.{ℕ, ℤ, ◌≡◌, ◌≤◌, ◌*◌, List, length, Some, unsigned_abs}
use Rattle.soft_record.specs.Numbers.{sum_of_numbers, least_of, greatest_of}
use Rattle.soft_record.specs.declared.spread.Spread.{Spread}

-- it is the spread of these numbers
pub record IsSpreadOf (numbers : List ℤ) (s : Spread) : Type 0 where
  pub count : s.count ≡ length numbers
  pub sum : s.sum ≡ sum_of_numbers numbers
  pub least : 1 ≤ s.count → least_of numbers ≡ Some s.least
  pub greatest : 1 ≤ s.count → greatest_of numbers ≡ Some s.greatest

-- the spread of one number
abbrev pub first_spread : ℤ → Spread
first_spread n = record { count = 1; sum = n; least = n; greatest = n }

-- its numbers have two bytes at most
pub record IsSmall (s : Spread) : Type 0 where
  pub sum : unsigned_abs s.sum ≤ 65535 * s.count
  pub least : unsigned_abs s.least ≤ 65535
  pub greatest : unsigned_abs s.greatest ≤ 65535

-- there are at most so many
pub record IsSmallOf (most : ℕ) (s : Spread) : Type 0 where
  pub count : s.count ≤ most
  pub small : IsSmall s
