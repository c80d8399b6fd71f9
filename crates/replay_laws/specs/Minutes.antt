-- Records of one minute after another, of which there can be more than an archive keeps.
use Rattle.std.specs.Prelude.{ℕ, zero, suc, ◌+◌, ◌*◌, ◌/◌, ◌%◌, List, [], ◌∷◌}
use Rattle.loop_packet.specs.declared.packet.LoopPacket.{LoopPacket}
use Rattle.console_model.specs.Console.{fresh_console}
use Rattle.station_sim.specs.Line.{Line, waited}
use Rattle.station_sim.specs.Talk.{fresh_line}

-- so many zeros
abbrev pub zeros : ℕ → List ℕ
zeros zero = []
zeros (suc n) = 0 ∷ zeros n

-- the time word of a minute, which is counted from 2000-01-01 00:00
abbrev pub time_word : ℕ → ℕ
time_word n = 100 * (n % 1440 / 60) + n % 60

-- the record of a minute of the first 28 days: its two words, and nothing else
unfoldable pub minute_record : ℕ → List ℕ
minute_record n = (33 + n / 1440) ∷ 0 ∷ (time_word n % 256) ∷ (time_word n / 256) ∷ zeros 48

-- the records of so many minutes, from one on
unfoldable pub minute_records : ℕ → ℕ → List (List ℕ)
minute_records n zero = []
minute_records n (suc count) = minute_record n ∷ minute_records (n + 1) count

-- a line to a new console, on which nothing was said
abbrev pub new_line : List ℕ → LoopPacket → Line
new_line eeprom packet = fresh_line (fresh_console eeprom packet)

-- that line, after the records of so many minutes fell due
abbrev pub filled_line : ℕ → List ℕ → LoopPacket → Line
filled_line count eeprom packet = waited (minute_records 0 count) (new_line eeprom packet)
