-- Bytes in pairs of hexadecimal digits.
use Rattle.std.specs.Prelude.{ℕ, ◌+◌, ◌*◌, ◌&&◌, nat_le, List, [], ◌∷◌, length, Some, None}
use Rattle.std.specs.declared.option.Option.{Option}
use Rattle.std.specs.Char.{is_digit, digit_value}
use Rattle.numerals.specs.Then.{◌>>=◌, only_if}

-- the byte that two hexadecimal digits write
abbrev pub pair_of : ℕ → ℕ → Option ℕ
pair_of high low = only_if (is_digit high 16 && is_digit low 16) (16 * digit_value high + digit_value low)

-- two hexadecimal digits for each byte
abbrev pub pairs_of : List ℕ → Option (List ℕ)
pairs_of [] = Some []
pairs_of (digit ∷ []) = None
pairs_of (high ∷ low ∷ digits) = do
  byte ← pair_of high low
  bytes ← pairs_of digits
  Some (byte ∷ bytes)

-- one to so many bytes
unfoldable pub bytes_within : ℕ → List ℕ → Option (List ℕ)
bytes_within most word = do
  bytes ← pairs_of word
  only_if (nat_le 1 (length bytes) && nat_le (length bytes) most) bytes
