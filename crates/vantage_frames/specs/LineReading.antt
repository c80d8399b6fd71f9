-- The command that a line is read as.
use Rattle.std.specs.Prelude.{ℕ, ◌+◌, ◌==◌, Bool, nat_le, nat_lt, ◌&&◌, not, if◌then◌else◌, Some, None, List, [], ◌∷◌}
use Rattle.std.specs.Prelude.{◌++◌, codes, length, take, drop, slice_index, option_map, position}
use Rattle.std.specs.declared.option.Option.{Option}
use Rattle.std.specs.Str.{bytes_eq}
use Rattle.std.specs.Option.{option_or}
use Rattle.station_base.specs.Period.{is_period}
use Rattle.vantage_frames.specs.declared.command.Command.{Command}
use Rattle.vantage_frames.specs.declared.command.Command.TheVariants.{Test, Kind, LoopFor, DumpAfter}
use Rattle.vantage_frames.specs.declared.command.Command.TheVariants.{EepromRead, EepromWrite, EepromAll}
use Rattle.vantage_frames.specs.declared.command.Command.TheVariants.{TimeGet, TimeSet, SetPeriod, ClearLog}
use Rattle.numerals.specs.Numeral.{number_in}
use Rattle.numerals.specs.Then.{◌>>=◌, only_if}
use Rattle.vantage_frames.specs.Line.{IsLineOf}
use Rattle.eeprom_map.specs.Memory.{eeprom_size}

-- a line is read as the command of which it is a line, or as nothing where it is a line of none
abbrev pub LineReadsAs : List ℕ → Option Command → Type 0
LineReadsAs line (Some command) = IsLineOf command line
LineReadsAs line None = (command : Command) → IsLineOf command line → ⊥

-- the line begins with these bytes
abbrev pub begins_with : List ℕ → List ℕ → Bool
begins_with line name = bytes_eq (take (length name) line) name

-- the command whose name stands alone (WRD is followed by 0x12 0x4D, Davis serial manual)
unfoldable pub plain_command_of : List ℕ → Option Command
plain_command_of line =
    if bytes_eq line (codes "TEST") then Some Test
    else if bytes_eq line (codes "WRD" ++ 0x12 ∷ 0x4D ∷ []) then Some Kind
    else if bytes_eq line (codes "DMPAFT") then Some DumpAfter
    else if bytes_eq line (codes "GETEE") then Some EepromAll
    else if bytes_eq line (codes "GETTIME") then Some TimeGet
    else if bytes_eq line (codes "SETTIME") then Some TimeSet
    else if bytes_eq line (codes "CLRLOG") then Some ClearLog
    else None

-- so many packets, behind the name
unfoldable pub packets_in : List ℕ → Option ℕ
packets_in digits = do
  packets ← number_in 10 4 digits
  only_if (nat_lt 0 packets) packets

-- place and count, behind the name
unfoldable pub bytes_in : List ℕ → Option (ℕ × ℕ)
bytes_in text = do
  space ← position (λ byte. byte == 32) text
  at ← number_in 16 3 (take space text)
  count ← number_in 16 2 (drop (space + 1) text)
  only_if (nat_lt 0 count && nat_le (at + count) eeprom_size) (at, count)

-- a period, behind the name
unfoldable pub period_in : List ℕ → Option ℕ
period_in digits = do
  minutes ← number_in 10 3 digits
  only_if (not (slice_index digits 0 == 48) && is_period minutes) minutes

-- the command that reads so many bytes from a place on
abbrev pub read_from : ℕ × ℕ → Command
read_from bytes = EepromRead bytes.0 bytes.1

-- the command that writes so many bytes from a place on
abbrev pub written_from : ℕ × ℕ → Command
written_from bytes = EepromWrite bytes.0 bytes.1

-- the command whose name has numbers behind it
unfoldable pub numbered_command_of : List ℕ → Option Command
numbered_command_of line =
    if begins_with line (codes "LOOP ") then option_map LoopFor (packets_in (drop 5 line))
    else if begins_with line (codes "EEBRD ") then option_map read_from (bytes_in (drop 6 line))
    else if begins_with line (codes "EEBWR ") then option_map written_from (bytes_in (drop 6 line))
    else if begins_with line (codes "SETPER ") then option_map SetPeriod (period_in (drop 7 line))
    else None

-- the command that a line is, if it is one
unfoldable pub command_of : List ℕ → Option Command
command_of line = option_or (plain_command_of line) (numbered_command_of line)
