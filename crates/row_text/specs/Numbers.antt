-- The numbers of a row's line, each in the one way in which it is written.
use Rattle.std.specs.Prelude.{ℕ, zero, suc, ℤ, pos, negsuc, ◌==◌, ◌&&◌, Bool, nat_lt, if◌then◌else◌}
use Rattle.std.specs.Prelude.{List, [], ◌∷◌, length, slice_index, Ok, Err, None, option_and_then}
use Rattle.std.specs.declared.option.Option.{Option}
use Rattle.std.specs.declared.result.Result.{Result}
use Rattle.numerals.specs.Then.{only_if}
use Rattle.numerals.specs.Numeral.{number_in}
use Rattle.station_base.specs.Period.{is_period}
use Rattle.station_base.specs.Limits.{farthest_value}
use Rattle.row_text.specs.declared.fault.RowFault.{RowFault}
use Rattle.row_text.specs.declared.fault.RowFault.TheVariants.{NoNumber, TooFar}
use Rattle.row_text.specs.Steps.{◌>>=◌, or_fault}

-- the digits of a period in minutes, at most
abbrev pub most_period_digits : ℕ
most_period_digits = 3

-- the digits of a value, at most
abbrev pub most_value_digits : ℕ
most_value_digits = 10

-- a zero stands before other digits
abbrev pub is_padded : List ℕ → Bool
is_padded digits = nat_lt 1 (length digits) && slice_index digits 0 == 48

-- the number that at most so many decimal digits write, with no zeros before them
unfoldable pub plain_number : ℕ → List ℕ → Option ℕ
plain_number most digits = if is_padded digits then None else number_in 10 most digits

-- the period in minutes of which this is the text
unfoldable pub period_of_text : List ℕ → Option ℕ
period_of_text word =
    option_and_then (λ minutes. only_if (is_period minutes) minutes) (plain_number most_period_digits word)

-- the size of at most ten digits, or why it is none of a value
unfoldable pub size_of_text : List ℕ → Result ℕ RowFault
size_of_text digits =
    or_fault NoNumber (plain_number most_value_digits digits) >>= (λ size.
    if nat_lt farthest_value size then Err TooFar else Ok size)

-- the negative number of this size, of which 0 has none
abbrev pub negative : ℕ → Result ℤ RowFault
negative zero = Err NoNumber
negative (suc n) = Ok (negsuc n)

-- the value of which this is the text, or why there is none
unfoldable pub value_of_text : List ℕ → Result ℤ RowFault
value_of_text [] = Err NoNumber
value_of_text (byte ∷ digits) =
    if byte == 45 then size_of_text digits >>= negative else size_of_text (byte ∷ digits) >>= (λ size. Ok (pos size))
