-- Which tasks can be asked of a console, and which runs can be made.
use Rattle.std.specs.Prelude.{◌≡◌, ◌<◌, ◌≤◌, ◌^◌, true, length}
use Rattle.console_tasks.specs.Memory.{AreWithin}
use Rattle.station_base.specs.ClockTime.{can_be_shown}
use Rattle.command_words.specs.Command.{CommandLine, climate, fleet, task, make, stay}
use Rattle.command_words.specs.declared.task.Task.{Task}
use Rattle.command_words.specs.declared.task.Task.TheVariants.{Packets, ReadMemory, WriteMemory, ReadClock, SetClock}
use Rattle.command_words.specs.declared.task.Task.TheVariants.{SetPeriod, Kind}

-- its numbers are in their ranges
abbrev pub CanBeMade : Task → Type 0
CanBeMade (Packets count) = (1 ≤ count) × (count ≤ 32)
CanBeMade (ReadMemory at count) = AreWithin at count
CanBeMade (WriteMemory at bytes) = AreWithin at (length bytes.items)
CanBeMade ReadClock = Unit {0}
CanBeMade (SetClock time) = can_be_shown time ≡ true
CanBeMade (SetPeriod minutes) = Unit {0}
CanBeMade Kind = Unit {0}

-- the command's task, if it is one, can be asked, its year has days, its rounds can be counted, its turns can be drawn,
-- and its run can be made
abbrev pub IsPossible : CommandLine → Type 0
IsPossible (task address asked) = CanBeMade asked
IsPossible (climate archive year) = (1999 ≤ year) × (year ≤ 2127)
IsPossible (stay names rounds waits) = (1 ≤ rounds) × (rounds ≤ 1000000) × (waits ≤ 1000000)
IsPossible (fleet names) = (names.seed < 2 ^ 31) × (1 ≤ length names.schedules) × (length names.schedules ≤ 8)
IsPossible (make seed records) = (seed < 2 ^ 31) × (1 ≤ records) × (records ≤ 5000)
IsPossible other = Unit {0}
