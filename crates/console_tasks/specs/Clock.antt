-- What the bytes of a console's clock are to a task.
use Rattle.std.specs.Prelude.{if◌then◌else◌, ℕ, List}
use Rattle.station_base.specs.ClockTime.{is_civil_second, time_shown}
use Rattle.console_tasks.specs.declared.end.TaskEnd.{TaskEnd}
use Rattle.console_tasks.specs.declared.end.TaskEnd.TheVariants.{Done, BadValue}

-- the end that a clock's six bytes show
abbrev pub judge_clock : List ℕ → TaskEnd
judge_clock bytes = if is_civil_second (time_shown bytes) then Done else BadValue
