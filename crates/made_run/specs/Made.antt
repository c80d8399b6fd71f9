-- The schedule that is made from a number. A record is told by what its bytes read as. (This project's own.)
use Rattle.std.specs.Prelude.{ℕ, zero, suc, ℤ, pos, ◌-ℤ◌, ◌+◌, ◌*◌, ◌%◌, ◌==◌, ◌||◌, Bool, true}
use Rattle.std.specs.Prelude.{false, if◌then◌else◌, List, [], ◌∷◌, ◌++◌, slice_set, Some, None, codes}
use Rattle.std.specs.declared.option.Option.{Option}
use Rattle.station_base.specs.CivilMinute.{CivilMinute, minute_of}
use Rattle.station_base.specs.Fields.{field_named}
use Rattle.station_base.specs.declared.row.Row.{Row}
use Rattle.archive_record.specs.declared.record_read.RecordRead.TheVariants.{Row as ReadRow}
use Rattle.schedule_file.specs.declared.fate.Fate.TheVariants.{Lost, Cut}
use Rattle.schedule_file.specs.declared.schedule.step.Stop.{Stop}
use Rattle.schedule_file.specs.Forms.{no_values}
use Rattle.schedule_file.specs.Steps.{Details, ScheduleStep, DueStep, RoundStep, no_details}
use Rattle.archive_record.specs.MovedOn.{minute_numbered}
use Rattle.draws.specs.Draws.{drawn, next_draw}

-- 2024-01-01 00:05
abbrev pub first_due : CivilMinute
first_due = record { year = 2024; month = 1; day = 1; hour = 0; minute = 5 }

-- so many minutes later
abbrev pub due_after : ℕ → CivilMinute
due_after minutes = minute_numbered (minute_of first_due + minutes)

-- the values with one at a field, if there is that field
abbrev pub with_field_value : Option ℕ → ℤ → List (Option ℤ) → List (Option ℤ)
with_field_value None value values = values
with_field_value (Some field) value values = slice_set values field (Some value)

-- the values of a record, of which two are drawn
abbrev pub due_values : ℕ → ℕ → List (Option ℤ)
due_values temperature rain =
    with_field_value (field_named (codes "rain")) (pos (rain % 3))
    (with_field_value (field_named (codes "outTemp")) (pos (temperature % 1000) -ℤ pos 200) no_values)

-- the row of the record with this number, from 0 on, of these two draws
abbrev pub due_row : ℕ → ℕ → ℕ → Row
due_row number temperature rain =
    record { stamp = due_after (5 * number); interval = 5; values = due_values temperature rain; limited = 0 }

-- `due`, where x is the number before its two draws
abbrev pub due_step : ℕ → ℕ → ScheduleStep
due_step number x = DueStep (ReadRow (due_row number (drawn (next_draw x)) (drawn (next_draw (next_draw x)))))

abbrev pub plain_round : ScheduleStep
plain_round = RoundStep no_details None

-- `host 4 lost`
abbrev pub host_lost : Details
host_lost = record { host = (4, Lost) ∷ []; replies = []; lates = []; mids = [] }

-- `reply 4 cut 100`
abbrev pub reply_cut : Details
reply_cut = record { host = []; replies = (4, Cut 100) ∷ []; lates = []; mids = [] }

-- `reply 4 late 2 50`
abbrev pub reply_late : Details
reply_late = record { host = []; replies = []; lates = (4, record { waits = 2; place = 50 }) ∷ []; mids = [] }

-- what belongs to a round of this kind
abbrev pub details_of : ℕ → Details
details_of kind =
    if kind == 4 then host_lost
    else if kind == 5 then reply_cut
    else if kind == 6 then reply_late
    else no_details

-- `stop K P`, where x is the number before its two draws
abbrev pub stop_drawn : ℕ → Stop
stop_drawn x = record { change = drawn (next_draw x) % 12 + 1; pick = drawn (next_draw (next_draw x)) % 5 }

-- the stop of a round of this kind, if it has one
abbrev pub stop_of_kind : ℕ → ℕ → Option Stop
stop_of_kind kind x = if kind == 7 then Some (stop_drawn x) else None

-- the round of a kind, where x is the number before the draws of a stop
abbrev pub round_of : ℕ → ℕ → ScheduleStep
round_of kind x = RoundStep (details_of kind) (stop_of_kind kind x)

-- the number after the draws of a round of that kind
abbrev pub after_kind : ℕ → ℕ → ℕ
after_kind kind x = if kind == 7 then next_draw (next_draw x) else x

-- the kind that is drawn, where x is the number before that
abbrev pub kind_drawn : ℕ → ℕ
kind_drawn x = drawn (next_draw x) % 8

-- by whether a round comes: it, and the number after its draws
abbrev pub rounds_behind : Bool → ℕ → List ScheduleStep
rounds_behind true x = round_of (kind_drawn x) (next_draw x) ∷ []
rounds_behind false x = []

abbrev pub after_rounds : Bool → ℕ → ℕ
after_rounds true x = after_kind (kind_drawn x) (next_draw x)
after_rounds false x = x

-- a round comes after each sixtieth record, and after the last
abbrev pub is_round : ℕ → ℕ → Bool
is_round records left = records % 60 == 0 || left == 0

-- the steps from the record with this number on, of which so many are left, and then the last round
abbrev pub steps_from : ℕ → ℕ → ℕ → List ScheduleStep
steps_from zero number x = plain_round ∷ []
steps_from (suc left) number x =
    let t = is_round (number + 1) left in
    let y = next_draw (next_draw x) in
    due_step number x ∷ rounds_behind t y ++ steps_from left (number + 1) (after_rounds t y)

-- so many records, and the rounds behind them, made from a seed
abbrev pub made_steps : ℕ → ℕ → List ScheduleStep
made_steps seed count = steps_from count 0 seed
