-- The line of the bytes of a memory.
use Rattle.std.specs.Prelude.{ℕ, ◌/◌, ◌%◌, false, List, [], ◌∷◌, ◌++◌, codes}
use Rattle.std.specs.Fmt.{digit_glyph}
use Rattle.std.specs.List.{flat_map}

-- two hexadecimal digits in lower case
abbrev pub hexadecimal_byte_text : ℕ → List ℕ
hexadecimal_byte_text byte = digit_glyph false (byte / 16) ∷ digit_glyph false (byte % 16) ∷ []

-- two hexadecimal digits for each byte, and the end of the line
abbrev pub bytes_line : List ℕ → List ℕ
bytes_line bytes = flat_map hexadecimal_byte_text bytes ++ codes "\n"
