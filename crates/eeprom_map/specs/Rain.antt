-- What one tip of the rain collector stands for (Davis serial manual, "EEPROM Configuration Settings").
use Rattle.std.specs.Prelude.{ℕ, ◌/◌, ◌%◌, ◌==◌, if◌then◌else◌, Some, None}
use Rattle.std.specs.declared.option.Option.{Option}
use Rattle.eeprom_map.specs.declared.rain.RainUnit.{RainUnit}
use Rattle.eeprom_map.specs.declared.rain.RainUnit.TheVariants.{Hundredths, Fifths, Tenths}

-- bits 4 and 5 of the setup bits
abbrev pub collector : ℕ → ℕ
collector setup = setup / 16 % 4

-- the unit that these setup bits name, where they name one
abbrev pub rain_unit_of : ℕ → Option RainUnit
rain_unit_of setup =
    if collector setup == 0 then Some Hundredths
    else if collector setup == 1 then Some Fifths
    else if collector setup == 2 then Some Tenths
    else None
