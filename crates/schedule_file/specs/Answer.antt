-- What the reading of a schedule answers.
use Rattle.std.specs.Prelude.{◌≡◌, Result, Ok, Err}
use Rattle.schedule_file.specs.declared.schedule.Schedule.{Schedule}
use Rattle.schedule_file.specs.declared.schedule.ScheduleFault.{ScheduleFault}
use Rattle.schedule_file.specs.declared.schedule.ScheduleFault.TheVariants.{OutOfMemory, Line}
use Rattle.schedule_file.specs.Steps.{Said, steps_said, steps_seen}
use Rattle.schedule_file.specs.Reading.{LineFault}

-- The schedule has these steps and so many records.
pub record HasSteps (schedule : Schedule) (said : Said) : Type 0 where
  pub steps : steps_seen schedule.period schedule.steps.items ≡ steps_said said
  pub records : schedule.records ≡ said.records

-- the answer is the schedule that was said, or the fault; want of memory may come at any time
abbrev pub ScheduleReadsAs : Result Said LineFault → Result Schedule ScheduleFault → Type 0
ScheduleReadsAs outcome (Ok schedule) = (said : Said) × (outcome ≡ Ok said) × HasSteps schedule said
ScheduleReadsAs outcome (Err (Line line kind)) = outcome ≡ Err (record { line = line; kind = kind })
ScheduleReadsAs outcome (Err OutOfMemory) = Unit {0}
