-- What holds of each schedule that is accepted.
use Rattle.std.specs.Prelude.{ℕ, ◌≡◌, ◌≤◌, List, length}
use Rattle.std.specs.List.{AllByRecursion}
use Rattle.archive_record.specs.Record.{IsRecord}
use Rattle.schedule_file.specs.declared.schedule.Schedule.{Schedule}
use Rattle.schedule_file.specs.declared.schedule.step.Step as code_step
use Rattle.schedule_file.specs.declared.schedule.step.Step.TheVariants as code
use Rattle.replay_laws.specs.Schedule.{IsSchedule, records}
use Rattle.replay_laws.specs.Room.{lines}
use Rattle.replay_laws.specs.Stopped.{IsStop}
use Rattle.schedule_steps.specs.Runs.{IsRun}
use Rattle.schedule_steps.specs.Steps.{steps_for}
use Rattle.schedule_file.specs.Limits.{most_records, most_turns}

-- a record of the step has its fifty-two bytes
abbrev pub HasRecord : code_step.Step → Type 0
HasRecord (code.Due rec) = IsRecord rec
HasRecord (code.Run first count) = IsRecord first
HasRecord (code.Idle ticks) = Unit {0}
HasRecord (code.Open stop) = Unit {0}
HasRecord (code.Round fates stop) = Unit {0}

-- each record of a `run` step has a stamp, and a stop comes within a change, the first of which is change 1
abbrev pub IsInRange : ℕ → code_step.Step → Type 0
IsInRange period (code.Due rec) = Unit {0}
IsInRange period (code.Run first count) = IsRun period first count
IsInRange period (code.Idle ticks) = Unit {0}
IsInRange period (code.Open stop) = IsStop stop
IsInRange period (code.Round fates stop) = IsStop stop

-- Steps of this period keep the rules of a schedule and are in their ranges, few of them open a session or make a
-- round, and few records fall due in them.
pub record AreAccepted (period : ℕ) (steps : List code_step.Step) : Type 0 where
  pub rules : IsSchedule (steps_for period steps)
  pub ranges : AllByRecursion (IsInRange period) steps
  pub few_lines : lines (steps_for period steps) ≤ most_turns
  pub few_records : length (records (steps_for period steps)) ≤ most_records

-- Its steps keep the rules of a schedule and are in their ranges, few of them open a session or make a round, and its
-- records are as many as it tells, which are few.
pub record ScheduleIsAccepted (schedule : Schedule) : Type 0 where
  pub rules : IsSchedule (steps_for schedule.period schedule.steps.items)
  pub ranges : AllByRecursion (IsInRange schedule.period) schedule.steps.items
  pub few_lines : lines (steps_for schedule.period schedule.steps.items) ≤ most_turns
  pub few_records : length (records (steps_for schedule.period schedule.steps.items)) ≤ most_records
  pub counted : length (records (steps_for schedule.period schedule.steps.items)) ≡ schedule.records
