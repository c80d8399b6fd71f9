-- The numbers of a packet that mean that a sensor told none. (The marks of the archive record, Davis serial manual;
-- that packets have the same is this project's profile.)
use Rattle.std.specs.Prelude.{ℤ, pos, Some, None, if◌then◌else◌}
use Rattle.std.specs.Ordering.{int_eq}
use Rattle.std.specs.declared.option.Option.{Option}

abbrev pub no_temperature : ℤ
no_temperature = pos 32767

abbrev pub no_barometer : ℤ
no_barometer = pos 0

abbrev pub no_radiation : ℤ
no_radiation = pos 32767

-- the mark of a humidity, the wind, or the UV index
abbrev pub no_byte : ℤ
no_byte = pos 255

-- the number, unless it is the mark
abbrev pub there : ℤ → ℤ → Option ℤ
there mark number = if int_eq number mark then None else Some number

-- the number, or the one before if it is not there
abbrev pub latest : Option ℤ → Option ℤ → Option ℤ
latest None before = before
latest (Some number) before = Some number
