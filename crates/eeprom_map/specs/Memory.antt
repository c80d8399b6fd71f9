-- The bytes of a console's EEPROM, and what stands in them (Davis serial manual, "EEPROM Configuration Settings").
use Rattle.std.specs.Prelude.{ℕ, ◌+◌, ℤ, List, ◌++◌, length, take, drop, replicate, slice_index, slice_set}
use Rattle.std.specs.Int.{w16, from_le_bytes, cast_signed}

-- the bytes of the EEPROM
abbrev pub eeprom_size : ℕ
eeprom_size = 4096

-- the signed number of two bytes at this place, the low one first
abbrev pub signed_at : ℕ → List ℕ → ℤ
signed_at place memory = cast_signed w16 (from_le_bytes w16 (drop place memory))

-- the latitude in tenths of a degree, north positive
abbrev pub latitude_in : List ℕ → ℤ
latitude_in memory = signed_at 0x0B memory

-- the longitude in tenths of a degree, east positive
abbrev pub longitude_in : List ℕ → ℤ
longitude_in memory = signed_at 0x0D memory

-- the elevation in feet
abbrev pub elevation_in : List ℕ → ℤ
elevation_in memory = signed_at 0x0F memory

-- the setup bits
abbrev pub setup_in : List ℕ → ℕ
setup_in memory = slice_index memory 0x2B

-- the archive period in minutes
abbrev pub minutes_in : List ℕ → ℕ
minutes_in memory = slice_index memory 0x2D

-- the memory with this archive period
abbrev pub with_period : ℕ → List ℕ → List ℕ
with_period minutes memory = slice_set memory 0x2D minutes

-- all zeros
unfoldable pub zero_memory : List ℕ
zero_memory = replicate eeprom_size 0

-- all 0 but the archive period, which is this one
abbrev pub new_memory : ℕ → List ℕ
new_memory minutes = with_period minutes zero_memory

-- the memory with these bytes from this place on
abbrev pub with_bytes : ℕ → List ℕ → List ℕ → List ℕ
with_bytes place bytes memory = take place memory ++ (bytes ++ drop (place + length bytes) memory)
