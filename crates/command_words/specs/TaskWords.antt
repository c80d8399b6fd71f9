-- What the words behind `task ADDRESS` ask of a console.
use Rattle.std.specs.Prelude.{ℕ, ◌+◌, if◌then◌else◌, nat_le, List, [], ◌∷◌, codes, length, Some, None, option_map}
use Rattle.std.specs.declared.option.Option.{Option}
use Rattle.std.specs.Str.{bytes_eq}
use Rattle.station_base.specs.Period.{is_period}
use Rattle.numerals.specs.Numeral.{number_in}
use Rattle.command_words.specs.ClockWords.{second_at}
use Rattle.command_words.specs.Numbers.{command_number_within, bytes_of}
use Rattle.numerals.specs.Then.{◌>>=◌, only_if}
use Rattle.command_words.specs.declared.task.Task.{Task}
use Rattle.command_words.specs.declared.task.Task.TheVariants.{Packets, ReadMemory, WriteMemory, ReadClock, SetClock}
use Rattle.command_words.specs.declared.task.Task.TheVariants.{SetPeriod, Kind}
use Rattle.eeprom_map.specs.Memory.{eeprom_size}

-- `N`, 1 to 32 packets
abbrev pub packets_task_in : List (List ℕ) → Option Task
packets_task_in (count ∷ []) = option_map Packets (command_number_within 1 32 count)
packets_task_in words = None

-- `AT N`: a place in one to three hexadecimal digits, and 1 to 255 bytes that lie within the 4,096
unfoldable pub reading_in : List (List ℕ) → Option Task
reading_in (place ∷ number ∷ []) = do
  at ← number_in 16 3 place
  count ← command_number_within 1 255 number
  only_if (nat_le (at + count) eeprom_size) (ReadMemory at count)
reading_in words = None

-- `AT HEX`: such a place, and the bytes that are written there
unfoldable pub writing_in : List (List ℕ) → Option Task
writing_in (place ∷ hex ∷ []) = do
  at ← number_in 16 3 place
  bytes ← bytes_of hex
  only_if (nat_le (at + length bytes) eeprom_size) (WriteMemory at (record { items = bytes }))
writing_in words = None

-- `read ..` or `write ..`
abbrev pub memory_in : List (List ℕ) → Option Task
memory_in [] = None
memory_in (word ∷ words) =
    if bytes_eq word (codes "read") then reading_in words
    else if bytes_eq word (codes "write") then writing_in words
    else None

-- nothing, or `set YYYY-MM-DD HH:MM:SS`
abbrev pub clock_in : List (List ℕ) → Option Task
clock_in [] = Some ReadClock
clock_in (word ∷ date ∷ time ∷ []) =
    if bytes_eq word (codes "set") then option_map SetClock (second_at date time) else None
clock_in words = None

-- `M`, a period in minutes
unfoldable pub period_task_in : List (List ℕ) → Option Task
period_task_in (word ∷ []) = do
  minutes ← command_number_within 1 120 word
  only_if (is_period minutes) (SetPeriod minutes)
period_task_in words = None

-- nothing
abbrev pub kind_task_in : List (List ℕ) → Option Task
kind_task_in [] = Some Kind
kind_task_in words = None

-- the task that the words spell, and none where they are outside the table
unfoldable pub task_of : List (List ℕ) → Option Task
task_of [] = None
task_of (word ∷ words) =
    if bytes_eq word (codes "loop") then packets_task_in words
    else if bytes_eq word (codes "eeprom") then memory_in words
    else if bytes_eq word (codes "time") then clock_in words
    else if bytes_eq word (codes "period") then period_task_in words
    else if bytes_eq word (codes "kind") then kind_task_in words
    else None
