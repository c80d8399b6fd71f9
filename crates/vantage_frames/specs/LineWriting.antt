-- The line that is written for a command (the one form of each is this project's choice).
use Rattle.std.specs.Prelude.{ℕ, ◌+◌, ◌/◌, ◌%◌, ◌≤◌, true, nat_lt, if◌then◌else◌, List, [], ◌∷◌, ◌++◌, codes}
use Rattle.std.specs.Fmt.{decimal, digit_glyph}
use Rattle.vantage_frames.specs.declared.command.Command.{Command}
use Rattle.vantage_frames.specs.declared.command.Command.TheVariants.{Test, Kind, LoopFor, DumpAfter}
use Rattle.vantage_frames.specs.declared.command.Command.TheVariants.{EepromRead, EepromWrite, EepromAll}
use Rattle.vantage_frames.specs.declared.command.Command.TheVariants.{TimeGet, TimeSet, SetPeriod, ClearLog}
use Rattle.eeprom_map.specs.Memory.{eeprom_size}

-- there are bytes, and they lie within the 4,096 of the EEPROM
abbrev pub AreInEeprom : ℕ → ℕ → Type 0
AreInEeprom place count = (1 ≤ count) × (place + count ≤ eeprom_size)

-- a line can say the numbers of the command
abbrev pub CanBeSaid : Command → Type 0
CanBeSaid Test = Unit {0}
CanBeSaid Kind = Unit {0}
CanBeSaid (LoopFor packets) = (1 ≤ packets) × (packets ≤ 9999)
CanBeSaid DumpAfter = Unit {0}
CanBeSaid (EepromRead at count) = AreInEeprom at count
CanBeSaid (EepromWrite at count) = AreInEeprom at count
CanBeSaid EepromAll = Unit {0}
CanBeSaid TimeGet = Unit {0}
CanBeSaid TimeSet = Unit {0}
CanBeSaid (SetPeriod minutes) = Unit {0}
CanBeSaid ClearLog = Unit {0}

-- two upper-case hexadecimal digits
abbrev pub two_digits : ℕ → List ℕ
two_digits n = digit_glyph true (n / 16) ∷ digit_glyph true (n % 16) ∷ []

-- two such digits, or three where a place needs them
abbrev pub place_digits : ℕ → List ℕ
place_digits place =
    if nat_lt place 256 then two_digits place
    else digit_glyph true (place / 256) ∷ two_digits (place % 256)

-- a place and a count, one space between them
unfoldable pub bytes_text : ℕ → ℕ → List ℕ
bytes_text place count = place_digits place ++ 32 ∷ two_digits count

-- the line of a command, without the LF that ends it
unfoldable pub line_of : Command → List ℕ
line_of Test = codes "TEST"
line_of Kind = codes "WRD" ++ 0x12 ∷ 0x4D ∷ []
line_of (LoopFor packets) = codes "LOOP " ++ decimal packets
line_of DumpAfter = codes "DMPAFT"
line_of (EepromRead at count) = codes "EEBRD " ++ bytes_text at count
line_of (EepromWrite at count) = codes "EEBWR " ++ bytes_text at count
line_of EepromAll = codes "GETEE"
line_of TimeGet = codes "GETTIME"
line_of TimeSet = codes "SETTIME"
line_of (SetPeriod minutes) = codes "SETPER " ++ decimal minutes
line_of ClearLog = codes "CLRLOG"
