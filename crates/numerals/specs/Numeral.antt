-- Numbers in digits, of which there are at most so many.
use Rattle.std.specs.Prelude.{ℕ, ◌≡◌, ◌≤◌, Bool, nat_lt, nat_le, ◌&&◌, if◌then◌else◌, List, length, Some, None}
use Rattle.std.specs.declared.option.Option.{Option}
use Rattle.std.specs.List.{list_all}
use Rattle.std.specs.Char.{is_digit}
use Rattle.std.specs.Str.Parse.{IsNumeral, digits_value}
use Rattle.numerals.specs.Then.{◌>>=◌, only_if}

-- The digits write the number in this base, letters in either case, with one digit at least and so many at most.
pub record WritesNumber (base most : ℕ) (digits : List ℕ) (number : ℕ) : Type 0 where
  pub numeral : IsNumeral base digits
  pub short : length digits ≤ most
  pub value : digits_value base digits ≡ number

-- whether these are digits of this base, one at least and so many at most
abbrev pub is_short_numeral : ℕ → ℕ → List ℕ → Bool
is_short_numeral base most digits =
    nat_lt 0 (length digits) && nat_le (length digits) most && list_all (λ digit. is_digit digit base) digits

-- the number that these digits write, if they are digits of this base and not too many
abbrev pub number_in : ℕ → ℕ → List ℕ → Option ℕ
number_in base most digits = if is_short_numeral base most digits then Some (digits_value base digits) else None

-- the number that at most so many decimal digits write, where it is in this range
unfoldable pub decimal_within : ℕ → ℕ → ℕ → List ℕ → Option ℕ
decimal_within most least greatest digits = do
  n ← number_in 10 most digits
  only_if (nat_le least n && nat_le n greatest) n
