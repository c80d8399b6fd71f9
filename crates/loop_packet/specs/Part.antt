-- The parts of a packet: how a value stands in bytes.
use Rattle.std.specs.Prelude.{ℕ, ℤ, List, [], ◌∷◌, ◌++◌, take, drop, slice_index}
use Rattle.std.specs.Int.{w8, w16, to_le_bytes, from_le_bytes, cast_signed, cast_unsigned}
use Rattle.std.specs.List.{flat_map}

-- fixed bytes, a number of one byte or of two, the low one first, unsigned or signed, or so many bytes
pub data PacketPart : Type 0 where
  Fixed : (text : List ℕ) → PacketPart
  Byte : PacketPart
  SignedByte : PacketPart
  Word : PacketPart
  SignedWord : PacketPart
  Bytes : (count : ℕ) → PacketPart

-- what a part says: a number, a number with a sign, or bytes
pub data Value : Type 0 where
  Number : (n : ℕ) → Value
  Signed : (z : ℤ) → Value
  Many : (bytes : List ℕ) → Value

-- the number of one byte at the front
unfoldable pub byte_in : List ℕ → ℕ
byte_in bytes = slice_index bytes 0

-- the number of one byte at the front, with a sign
unfoldable pub signed_byte_in : List ℕ → ℤ
signed_byte_in bytes = cast_signed w8 (slice_index bytes 0)

-- the number of two bytes at the front
unfoldable pub word_in : List ℕ → ℕ
word_in bytes = from_le_bytes w16 bytes

-- the number of two bytes at the front, with a sign
unfoldable pub signed_word_in : List ℕ → ℤ
signed_word_in bytes = cast_signed w16 (from_le_bytes w16 bytes)

-- the byte of a number of one byte with a sign
unfoldable pub signed_byte_of : ℤ → List ℕ
signed_byte_of z = to_le_bytes w8 (cast_unsigned w8 z)

-- the bytes of a number of two bytes
unfoldable pub word_of : ℕ → List ℕ
word_of n = to_le_bytes w16 n

-- the bytes of a number of two bytes with a sign
unfoldable pub signed_word_of : ℤ → List ℕ
signed_word_of z = to_le_bytes w16 (cast_unsigned w16 z)

-- the value that stands at the front of the bytes, if the part has one
abbrev pub values_of_part : PacketPart → List ℕ → List Value
values_of_part (Fixed text) bytes = []
values_of_part Byte bytes = Number (byte_in bytes) ∷ []
values_of_part SignedByte bytes = Signed (signed_byte_in bytes) ∷ []
values_of_part Word bytes = Number (word_in bytes) ∷ []
values_of_part SignedWord bytes = Signed (signed_word_in bytes) ∷ []
values_of_part (Bytes count) bytes = Many (take count bytes) ∷ []

-- the values of the parts, each from its offset on
abbrev pub values_of_parts : List (ℕ × PacketPart) → List ℕ → List Value
values_of_parts parts bytes = flat_map (λ part. values_of_part part.1 (drop part.0 bytes)) parts

-- the bytes of the parts, one behind the other, with these values
abbrev pub spelled_parts : List (ℕ × PacketPart) → List Value → List ℕ
spelled_parts [] vs = []
spelled_parts ((at, Fixed text) ∷ parts) vs = text ++ spelled_parts parts vs
spelled_parts ((at, Byte) ∷ parts) (Number n ∷ vs) = n ∷ spelled_parts parts vs
spelled_parts ((at, SignedByte) ∷ parts) (Signed z ∷ vs) = signed_byte_of z ++ spelled_parts parts vs
spelled_parts ((at, Word) ∷ parts) (Number n ∷ vs) = word_of n ++ spelled_parts parts vs
spelled_parts ((at, SignedWord) ∷ parts) (Signed z ∷ vs) = signed_word_of z ++ spelled_parts parts vs
spelled_parts ((at, Bytes count) ∷ parts) (Many bytes ∷ vs) = bytes ++ spelled_parts parts vs
spelled_parts (part ∷ parts) vs = []
