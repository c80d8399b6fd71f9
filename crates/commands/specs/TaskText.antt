-- What is written of a task that is done: what its answers give.
use Rattle.std.specs.Prelude.{ℕ, ℤ, List, [], ◌++◌, codes, length, take, drop, slice_index, slice_index_or}
use Rattle.std.specs.List.{flat_map}
use Rattle.loop_packet.specs.Part.{byte_in, signed_word_in, word_in}
use Rattle.station_base.specs.ClockTime.{time_shown}
use Rattle.station_base.specs.Digits.{digits}
use Rattle.station_base.specs.NumberText.{number_text, signed_text}
use Rattle.run_output.specs.MemoryText.{bytes_line}
use Rattle.station_base.specs.declared.clock.ClockTime.{ClockTime}
use Rattle.command_words.specs.declared.task.Task.{Task}
use Rattle.command_words.specs.declared.task.Task.TheVariants.{Packets, ReadMemory, WriteMemory, ReadClock, SetClock}
use Rattle.command_words.specs.declared.task.Task.TheVariants.{SetPeriod, Kind}

-- barometer, temperature inside and outside, speed and direction of the wind
unfoldable pub packet_numbers_line : ℕ → ℤ → ℤ → ℕ → ℕ → List ℕ
packet_numbers_line barometer inside outside wind direction =
    codes "loop barometer " ++ number_text barometer ++ codes " inTemp " ++ signed_text inside
    ++ codes " outTemp " ++ signed_text outside ++ codes " wind " ++ number_text wind
    ++ codes " dir " ++ number_text direction ++ codes "\n"

-- these numbers as a packet has them (Davis serial manual, "LOOP data format")
abbrev pub packet_line : List ℕ → List ℕ
packet_line bytes =
    packet_numbers_line (word_in (drop 7 bytes)) (signed_word_in (drop 9 bytes)) (signed_word_in (drop 12 bytes))
    (byte_in (drop 14 bytes)) (word_in (drop 16 bytes))

-- how many bytes were written
abbrev pub written_line : ℕ → List ℕ
written_line count = codes "written " ++ number_text count ++ codes "\n"

-- `time YYYY-MM-DD HH:MM:SS`
unfoldable pub clock_line : ClockTime → List ℕ
clock_line time =
    codes "time " ++ number_text time.year ++ codes "-" ++ digits 2 time.month ++ codes "-" ++ digits 2 time.day
    ++ codes " " ++ digits 2 time.hour ++ codes ":" ++ digits 2 time.minute ++ codes ":" ++ digits 2 time.second
    ++ codes "\n"

-- the line of a period that was set
abbrev pub period_line : ℕ → List ℕ
period_line minutes = codes "period " ++ number_text minutes ++ codes "\n"

-- the line of a kind of station
abbrev pub kind_line : ℕ → List ℕ
kind_line kind = codes "kind " ++ number_text kind ++ codes "\n"

-- what the first answer has behind its 0x06
abbrev pub first_answer : List (List ℕ) → List ℕ
first_answer answers = drop 1 (slice_index_or answers 0 [])

-- the lines of a task that is done, by its answers: the packets behind the first of them, or what the first has
abbrev pub task_text : Task → List (List ℕ) → List ℕ
task_text (Packets count) answers = flat_map packet_line (drop 1 answers)
task_text (ReadMemory at count) answers = bytes_line (take count (first_answer answers))
task_text (WriteMemory at bytes) answers = written_line (length bytes.items)
task_text ReadClock answers = clock_line (time_shown (first_answer answers))
task_text (SetClock time) answers = codes "time set\n"
task_text (SetPeriod minutes) answers = period_line minutes
task_text Kind answers = kind_line (slice_index (first_answer answers) 0)
