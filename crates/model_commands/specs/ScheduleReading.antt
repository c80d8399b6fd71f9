-- The step that reads a schedule from a file.
use Rattle.std.specs.Prelude.{ℕ, ◌≡◌, ◌≤◌, ◌⊎◌, length, List, ◌++◌, Ok, Err, codes}
use Rattle.std.specs.declared.result.Result.{Result}
use Rattle.run_output.specs.Output.{Output, no_memory}
use Rattle.run_output.specs.Reading.{reads}
use Rattle.run_output.specs.Steps.{CommandStep, then}
use Rattle.run_output.specs.declared.status.Status.TheVariants as ends
use Rattle.schedule_file.specs.Answer.{ScheduleReadsAs}
use Rattle.schedule_file.specs.Reading.{LineFault, said_by_text}
use Rattle.schedule_file.specs.declared.schedule.Schedule.{Schedule}
use Rattle.schedule_steps.specs.Accepted.{ScheduleIsAccepted}
use Rattle.station_base.specs.NumberText.{number_text}
use Rattle.station_io.specs.Files.{Shelf}

-- `schedule line`, the number of the faulty line, `fault` and the kind of its fault
abbrev pub schedule_fault_line : LineFault → List ℕ
schedule_fault_line fault =
    codes "schedule line " ++ number_text fault.line ++ codes " fault " ++ number_text fault.kind ++ codes "\n"

-- the line of a fault
abbrev pub bad_schedule : LineFault → Output
bad_schedule fault = record { text = schedule_fault_line fault; status = ends.BadSchedule }

-- what a text says to a console of this period: a schedule or its first fault, or there was no memory
abbrev pub SaysSchedule : List ℕ → ℕ → Result Schedule Output → Type 0
SaysSchedule text period (Ok schedule) =
    ScheduleReadsAs (said_by_text text period) (Ok schedule) × (schedule.period ≡ period)
SaysSchedule text period (Err output) =
    (output ≡ no_memory) ⊎ ((fault : LineFault) × (said_by_text text period ≡ Err fault)
    × (output ≡ bad_schedule fault))

-- the schedule of a text, without a call
abbrev pub says_schedule : {F : Type 0} → List ℕ → ℕ → CommandStep F Schedule
says_schedule text period old result new = SaysSchedule text period result × (new ≡ old)

-- a file of a schedule is read, and its steps, for a console of this period, are what is given
abbrev pub reads_schedule : {F : Type 0} → Shelf F → List ℕ → ℕ → CommandStep F Schedule
reads_schedule shelf name period = then (reads shelf name) (λ text. says_schedule text.items period)

-- A schedule that was read for this period: it is accepted, and has at most 10,000 steps.
pub record IsFit (period : ℕ) (schedule : Schedule) : Type 0 where
  pub accepted : ScheduleIsAccepted schedule
  pub period_is : schedule.period ≡ period
  pub few : length schedule.steps.items ≤ 10000
