-- What single words of a command say as numbers and bytes.
use Rattle.std.specs.Prelude.{ℕ, List}
use Rattle.std.specs.declared.option.Option.{Option}
use Rattle.numerals.specs.Numeral.{decimal_within}
use Rattle.numerals.specs.Pairs.{bytes_within}

-- one to ten decimal digits that write a number in a range
abbrev pub command_number_within : ℕ → ℕ → List ℕ → Option ℕ
command_number_within least greatest word = decimal_within 10 least greatest word

-- at most four decimal digits that write a number in a range; four, where the range begins at 1,000 or above
abbrev pub year_within : ℕ → ℕ → List ℕ → Option ℕ
year_within least greatest word = decimal_within 4 least greatest word

-- one to 255 bytes, each in two hexadecimal digits
abbrev pub bytes_of : List ℕ → Option (List ℕ)
bytes_of word = bytes_within 255 word
