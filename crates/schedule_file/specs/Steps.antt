-- The steps of a schedule, and what the lines so far have said.
use Rattle.std.specs.Prelude.{ℕ, ℤ, ◌+◌, ◌*◌, ◌-◌, List, [], ◌∷◌, ◌++◌, length, map, Some, None}
use Rattle.std.specs.declared.option.Option.{Option}
use Rattle.station_base.specs.CivilMinute.{CivilMinute, minute_of, first_minute}
use Rattle.archive_record.specs.declared.record_read.RecordRead.{RecordRead}
use Rattle.archive_record.specs.declared.record_read.RecordRead.TheVariants.{Row as ReadRow}
use Rattle.archive_record.specs.Reading.{reading}
use Rattle.schedule_file.specs.declared.fate.Fate.{Fate}
use Rattle.schedule_file.specs.declared.fates.Late.{Late}
use Rattle.schedule_file.specs.declared.fates.Mid.{Mid}
use Rattle.schedule_file.specs.declared.fates.Fates.{Fates}
use Rattle.schedule_file.specs.declared.schedule.step.Step as code_step
use Rattle.schedule_file.specs.declared.schedule.step.Step.TheVariants as code
use Rattle.schedule_file.specs.declared.schedule.step.Stop.{Stop}
use Rattle.schedule_file.specs.declared.schedule.form.Told.{Told}
use Rattle.schedule_file.specs.declared.schedule.turn.Turn.{Turn}
use Rattle.schedule_file.specs.declared.schedule.turn.Turn.TheVariants.{Neither, Opening, InRound}
use Rattle.schedule_file.specs.Fates.{Lateness}
use Rattle.schedule_file.specs.Lists.{late_seen}

-- A record that falls due after a message of the host, told by what its bytes read as.
pub record MidRecord : Type 0 where
  pub number : ℕ
  pub record_read : RecordRead

-- What belongs to a round: the fates of its messages and replies, how late replies come, and which records fall due.
pub record Details : Type 0 where
  pub host : List (ℕ × Fate)
  pub replies : List (ℕ × Fate)
  pub lates : List (ℕ × Lateness)
  pub mids : List MidRecord

-- nothing befalls in a round
abbrev pub no_details : Details
no_details = record { host = []; replies = []; lates = []; mids = [] }

-- A step of a schedule as its text has it. A record is told by what its bytes read as.
pub data ScheduleStep : Type 0 where
  DueStep : RecordRead → ScheduleStep
  RunStep : RecordRead → ℕ → ScheduleStep
  IdleStep : ℕ → ScheduleStep
  OpenStep : Option Stop → ScheduleStep
  RoundStep : Details → Option Stop → ScheduleStep

-- What the lines so far have said: the steps before the last `open` or `round`, which of the two that was, what belongs
-- to it, and the steps after it; the minute of the last record, or 0; the number of records, and that of these turns.
pub record Said : Type 0 where
  pub before : List ScheduleStep
  pub turn : Turn
  pub details : Details
  pub stop : Option Stop
  pub since : List ScheduleStep
  pub newest : ℕ
  pub records : ℕ
  pub turns : ℕ

-- how many records belong to the last `open` or `round`, which has so many within it
abbrev pub records_within : Turn → ℕ → ℕ
records_within Neither count = 0
records_within Opening count = 0
records_within InRound count = count

-- how many records fall due in a step
abbrev pub records_in_step : ScheduleStep → ℕ
records_in_step (DueStep r) = 1
records_in_step (RunStep first count) = count
records_in_step (RoundStep details stop) = length details.mids
records_in_step other = 0

-- how many records fall due in all steps
abbrev pub records_in_steps : List ScheduleStep → ℕ
records_in_steps [] = 0
records_in_steps (s ∷ ss) = records_in_step s + records_in_steps ss

-- nothing was said yet
abbrev pub nothing_said : Said
nothing_said = record {
  before = [];
  turn = Neither;
  details = no_details;
  stop = None;
  since = [];
  newest = 0;
  records = 0;
  turns = 0;
}

-- the last `open` or `round` with what belongs to it
abbrev pub turn_steps : Turn → Details → Option Stop → List ScheduleStep
turn_steps Neither details stop = []
turn_steps Opening details stop = OpenStep stop ∷ []
turn_steps InRound details stop = RoundStep details stop ∷ []

-- all steps said
abbrev pub steps_said : Said → List ScheduleStep
steps_said s = (s.before ++ turn_steps s.turn s.details s.stop) ++ s.since

-- what the bytes of the record of this stamp and these values read as
abbrev pub read_at : ℕ → Option CivilMinute → Option (List (Option ℤ)) → RecordRead
read_at period (Some stamp) (Some values) =
    ReadRow (record { stamp = stamp; interval = period; values = values; limited = 0 })
read_at period (Some stamp) None = ReadRow (record { stamp = stamp; interval = period; values = []; limited = 0 })
read_at period None values = ReadRow (record { stamp = first_minute; interval = period; values = []; limited = 0 })

-- what the bytes of a record read as that a line tells of
abbrev pub record_told : ℕ → Told → RecordRead
record_told period told = read_at period told.stamp told.values

-- the minute of the last of so many records, of which the first has this stamp
abbrev pub last_minute_of : ℕ → Option CivilMinute → ℕ → ℕ
last_minute_of period None count = 0
last_minute_of period (Some stamp) count = minute_of stamp + (count - 1) * period

-- how the code's entries of late replies are seen
abbrev pub lates_seen : List (ℕ × Late) → List (ℕ × Lateness)
lates_seen entries = map (λ entry. (entry.0, late_seen entry.1)) entries

-- how the code's entry of a record after a message is seen
abbrev pub mid_seen : ℕ → Mid → MidRecord
mid_seen period x = record { number = x.number; record_read = reading x.rec period }

-- how the code's lists of a round are seen
abbrev pub details_seen : ℕ → Fates → Details
details_seen period f = record {
  host = f.host.entries;
  replies = f.replies.entries;
  lates = lates_seen f.lates.entries;
  mids = map (mid_seen period) f.mids.items;
}

-- a step of the code, of a schedule of this period, as its text has it
abbrev pub step_seen : ℕ → code_step.Step → ScheduleStep
step_seen period (code.Due r) = DueStep (reading r period)
step_seen period (code.Run first count) = RunStep (reading first period) count
step_seen period (code.Idle ticks) = IdleStep ticks
step_seen period (code.Open stop) = OpenStep stop
step_seen period (code.Round fates stop) = RoundStep (details_seen period fates) stop

-- all steps of the code, of a schedule of this period, as its text has them
abbrev pub steps_seen : ℕ → List code_step.Step → List ScheduleStep
steps_seen period steps = map (step_seen period) steps
