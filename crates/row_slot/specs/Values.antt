-- The values of the fields in a slot: bits that say which there are, and their numbers.
use Rattle.std.specs.Prelude.{ℕ, zero, suc, ℤ, pos, ◌+◌, ◌*◌, ◌/◌, ◌%◌, ◌==◌, Bool, true, false, nat_le, unsigned_abs}
use Rattle.std.specs.Prelude.{List, [], ◌∷◌, map, flat_map, drop, Some, None}
use Rattle.std.specs.Bool.{then_some}
use Rattle.std.specs.Int.{w32, cast_signed, cast_unsigned}
use Rattle.std.specs.Option.{unwrap_or}
use Rattle.std.specs.declared.option.Option.{Option}
use Rattle.byteorder.specs.Endian.{little_bytes, little_number}
use Rattle.station_base.specs.Limits.{farthest_value}

-- 1 where there is a value
abbrev pub bit_of : Option ℤ → ℕ
bit_of None = 0
bit_of (Some value) = 1

-- the presence bits of fields as a number, the bit of the first field the lowest
abbrev pub presence_of : List (Option ℤ) → ℕ
presence_of [] = 0
presence_of (value ∷ values) = bit_of value + 2 * presence_of values

-- the number of each field: its value, and 0 where it is missing
abbrev pub numbers_of : List (Option ℤ) → List ℤ
numbers_of values = map (λ value. unwrap_or value (pos 0)) values

-- signed numbers of four bytes one behind the other, the low byte of each first
abbrev pub spelled_numbers : List ℤ → List ℕ
spelled_numbers numbers = flat_map (λ number. little_bytes 4 (cast_unsigned w32 number)) numbers

-- the signed number of four bytes at the front
abbrev pub signed_number_in : List ℕ → ℤ
signed_number_in bytes = cast_signed w32 (little_number 4 bytes)

-- a value lies within 2,000,000 either way, and where it is missing the number is 0
abbrev pub is_allowed : Bool → ℤ → Bool
is_allowed true number = nat_le (unsigned_abs number) farthest_value
is_allowed false number = unsigned_abs number == 0

-- the value in front of the others, if it is allowed and they are
abbrev pub before : Bool → Option ℤ → Option (List (Option ℤ)) → Option (List (Option ℤ))
before false value others = None
before true value None = None
before true value (Some values) = Some (value ∷ values)

-- no value, where no presence bit is left
abbrev pub at_end : Bool → Option (List (Option ℤ))
at_end true = Some []
at_end false = None

-- The values of so many fields, where each is allowed: the lowest bit of the presence tells of the first field, whose
-- number is that of the first four bytes. No bit is left for further fields.
unfoldable pub slot_values_in : ℕ → ℕ → List ℕ → Option (List (Option ℤ))
slot_values_in zero presence bytes = at_end (presence == 0)
slot_values_in (suc count) presence bytes =
    before (is_allowed (presence % 2 == 1) (signed_number_in bytes))
    (then_some (presence % 2 == 1) (signed_number_in bytes))
    (slot_values_in count (presence / 2) (drop 4 bytes))
