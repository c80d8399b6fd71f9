-- The lines that command a console, without the LF that ends each (Davis serial manual, "Commands"; how many digits a
-- number may have, and its range, are this project's profile).
use Rattle.std.specs.Prelude.{ℕ, ◌+◌, ◌≡◌, ◌≢◌, ◌≤◌, List, [], ◌∷◌, ◌++◌, codes, slice_index}
use Rattle.station_base.specs.Period.{IsPeriod}
use Rattle.vantage_frames.specs.declared.command.Command.{Command}
use Rattle.vantage_frames.specs.declared.command.Command.TheVariants.{Test, Kind, LoopFor, DumpAfter}
use Rattle.vantage_frames.specs.declared.command.Command.TheVariants.{EepromRead, EepromWrite, EepromAll}
use Rattle.vantage_frames.specs.declared.command.Command.TheVariants.{TimeGet, TimeSet, SetPeriod, ClearLog}
use Rattle.numerals.specs.Numeral.{WritesNumber}
use Rattle.eeprom_map.specs.Memory.{eeprom_size}

-- the line is this name, and then a text that says so
abbrev pub HasBehind : List ℕ → List ℕ → (List ℕ → Type 0) → Type 0
HasBehind name line Says = (text : List ℕ) × (line ≡ name ++ text) × Says text

-- A count of packets, in one to four decimal digits.
pub record SaysPackets (text : List ℕ) (count : ℕ) : Type 0 where
  pub number : WritesNumber 10 4 text count
  pub some : 1 ≤ count

-- Bytes of the EEPROM: a place in one to three hexadecimal digits, a space, and a count in one or two.
pub record SaysBytes (text : List ℕ) (place count : ℕ) : Type 0 where
  pub place_digits : List ℕ
  pub count_digits : List ℕ
  pub spelled : text ≡ place_digits ++ 32 ∷ count_digits
  pub from : WritesNumber 16 3 place_digits place
  pub bytes : WritesNumber 16 2 count_digits count
  pub some : 1 ≤ count
  pub within : place + count ≤ eeprom_size

-- A period in minutes, in decimal digits of which the first is not 0.
pub record SaysPeriod (text : List ℕ) (minutes : ℕ) : Type 0 where
  pub number : WritesNumber 10 3 text minutes
  pub plain : slice_index text 0 ≢ 48
  pub period : IsPeriod minutes

-- the line is one of this command
abbrev pub IsLineOf : Command → List ℕ → Type 0
IsLineOf Test line = line ≡ codes "TEST"
IsLineOf Kind line = line ≡ codes "WRD" ++ 0x12 ∷ 0x4D ∷ []
IsLineOf (LoopFor packets) line = HasBehind (codes "LOOP ") line (λ text. SaysPackets text packets)
IsLineOf DumpAfter line = line ≡ codes "DMPAFT"
IsLineOf (EepromRead at count) line = HasBehind (codes "EEBRD ") line (λ text. SaysBytes text at count)
IsLineOf (EepromWrite at count) line = HasBehind (codes "EEBWR ") line (λ text. SaysBytes text at count)
IsLineOf EepromAll line = line ≡ codes "GETEE"
IsLineOf TimeGet line = line ≡ codes "GETTIME"
IsLineOf TimeSet line = line ≡ codes "SETTIME"
IsLineOf (SetPeriod minutes) line = HasBehind (codes "SETPER ") line (λ text. SaysPeriod text minutes)
IsLineOf ClearLog line = line ≡ codes "CLRLOG"
