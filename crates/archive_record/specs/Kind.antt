-- How fields stand in a record: as numbers without a sign, and what values these mean.
use Rattle.std.specs.Prelude.{ℕ, ℤ, pos, negsuc, ◌+◌, ◌*◌, ◌^◌, ◌<◌, ◌-ℤ◌, ◌≤ℤ◌, List, slice_index}
use Rattle.std.specs.Int.{w16, cast_signed}
use Rattle.archive_record.specs.declared.kind.Kind.{Kind}
use Rattle.archive_record.specs.declared.kind.Kind.TheVariants.{SignedWord, Word, Byte, Degrees}

-- how many bytes
abbrev pub width_of : Kind → ℕ
width_of SignedWord = 2
width_of Word = 2
width_of Byte = 1
width_of Degrees = 1

-- the number has room in these bytes
abbrev pub IsRaw : Kind → ℕ → Type 0
IsRaw kind raw = raw < 256 ^ width_of kind

-- the value that the number means
abbrev pub value_of_kind : Kind → ℕ → ℤ
value_of_kind SignedWord raw = cast_signed w16 raw
value_of_kind Word raw = pos raw
value_of_kind Byte raw = pos raw
value_of_kind Degrees raw = pos raw -ℤ pos 90

-- the least value and the greatest
abbrev pub least_of_kind : Kind → ℤ
least_of_kind SignedWord = negsuc 32767
least_of_kind Word = pos 0
least_of_kind Byte = pos 0
least_of_kind Degrees = negsuc 89

-- the greatest value that a number of this kind can mean
abbrev pub greatest_of_kind : Kind → ℤ
greatest_of_kind SignedWord = pos 32767
greatest_of_kind Word = pos 65535
greatest_of_kind Byte = pos 255
greatest_of_kind Degrees = pos 165

-- a kind has the values from the least to the greatest
abbrev pub HasValue : Kind → ℤ → Type 0
HasValue kind value = (least_of_kind kind ≤ℤ value) × (value ≤ℤ greatest_of_kind kind)

-- the two bytes at an offset as one number, the low one first
abbrev pub word_at : List ℕ → ℕ → ℕ
word_at bytes offset = slice_index bytes offset + 256 * slice_index bytes (offset + 1)

-- the number of a kind at an offset
abbrev pub raw_at : List ℕ → Kind → ℕ → ℕ
raw_at bytes SignedWord offset = word_at bytes offset
raw_at bytes Word offset = word_at bytes offset
raw_at bytes Byte offset = slice_index bytes offset
raw_at bytes Degrees offset = slice_index bytes offset
