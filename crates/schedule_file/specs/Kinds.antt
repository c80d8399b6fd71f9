-- The kinds of fault that a line of a form can have, each by itself, and the least that applies.
use Rattle.std.specs.Prelude.{ℕ, ℤ, ◌+◌, ◌-◌, ◌*◌, Bool, true, false, nat_le, nat_lt, not, ◌||◌}
use Rattle.std.specs.Prelude.{if◌then◌else◌, List, [], ◌∷◌, ◌++◌, length, Some, None, is_some}
use Rattle.std.specs.declared.option.Option.{Option}
use Rattle.std.specs.List.{list_any}
use Rattle.station_base.specs.CivilMinute.{CivilMinute, minute_of, last_minute}
use Rattle.archive_record.specs.Table.{places}
use Rattle.archive_record.specs.Writing.{can_hold_all}
use Rattle.schedule_file.specs.declared.schedule.form.Form.{Form}
use Rattle.schedule_file.specs.declared.schedule.form.Form.TheVariants.{Due, Run, Idle, Open, Round}
use Rattle.schedule_file.specs.declared.schedule.form.Form.TheVariants.{Host, Reply, Late, Mid, Stop}
use Rattle.schedule_file.specs.declared.schedule.form.Told.{Told}
use Rattle.schedule_file.specs.declared.schedule.turn.Turn.{Turn}
use Rattle.schedule_file.specs.declared.schedule.turn.Turn.TheVariants.{Neither, InRound}
use Rattle.schedule_file.specs.Lists.{entry_of}
use Rattle.schedule_file.specs.Steps.{MidRecord, ScheduleStep, DueStep, RunStep, Said}
use Rattle.schedule_file.specs.Limits.{most_records, most_turns, most_mids}

-- kind 5: the stamp, or that of the last of so many records, is no stamp
abbrev pub is_no_stamp : ℕ → Option CivilMinute → ℕ → Bool
is_no_stamp period None count = true
is_no_stamp period (Some stamp) count = nat_lt (minute_of last_minute) (minute_of stamp + (count - 1) * period)

-- kind 6: the stamp does not exceed that of every record before
abbrev pub is_not_later : ℕ → Option CivilMinute → Bool
is_not_later newest None = true
is_not_later newest (Some stamp) = nat_le (minute_of stamp) newest

-- kind 7: a name is unknown or repeated, or no record has the values
abbrev pub has_no_record : Option (List (Option ℤ)) → Bool
has_no_record None = true
has_no_record (Some values) = not (can_hold_all places values)

-- the last of `open` and `round` was a `round`
abbrev pub is_in_round : Turn → Bool
is_in_round InRound = true
is_in_round other = false

-- there was neither an `open` nor a `round`
abbrev pub is_neither : Turn → Bool
is_neither Neither = true
is_neither other = false

-- the step has a record that falls due
abbrev pub is_due : ScheduleStep → Bool
is_due (DueStep r) = true
is_due (RunStep r count) = true
is_due other = false

-- the number has an entry
abbrev pub is_listed : {A : Type 0} → List (ℕ × A) → ℕ → Bool
is_listed entries number = is_some (entry_of number entries)

-- kind 13: the number is below that of the last mid
abbrev pub is_below_last : List MidRecord → ℕ → Bool
is_below_last [] number = false
is_below_last (x ∷ []) number = nat_lt number x.number
is_below_last (x ∷ y ∷ xs) number = is_below_last (y ∷ xs) number

-- A kind of fault, and whether it applies.
pub record FaultKind : Type 0 where
  pub kind : ℕ
  pub applies : Bool

-- a kind of fault of this number, and whether it applies
abbrev pub kind_if : ℕ → Bool → FaultKind
kind_if kind applies = record { kind = kind; applies = applies }

-- of so many records: their stamps, their order, and their values
abbrev pub told_kinds : ℕ → Said → Told → ℕ → List FaultKind
told_kinds period s told count =
    kind_if 5 (is_no_stamp period told.stamp count) ∷ kind_if 6 (is_not_later s.newest told.stamp)
    ∷ kind_if 7 (has_no_record told.values) ∷ []

-- too many records
abbrev pub count_kinds : Said → ℕ → List FaultKind
count_kinds s count = kind_if 10 (nat_lt most_records (s.records + count)) ∷ []

-- too many `open` and `round`
abbrev pub turn_kinds : Said → List FaultKind
turn_kinds s = kind_if 11 (nat_lt most_turns (s.turns + 1)) ∷ []

-- the kinds from 5 to 14 that a line of this form can have, in their order
abbrev pub kinds : ℕ → Said → Form → List FaultKind
kinds period s (Due told) = told_kinds period s told 1 ++ count_kinds s 1
kinds period s (Run first count) = told_kinds period s first count ++ count_kinds s count
kinds period s (Idle ticks) = []
kinds period s Open = turn_kinds s
kinds period s Round = turn_kinds s
kinds period s (Host number fate) =
    kind_if 8 (not (is_in_round s.turn)) ∷ kind_if 9 (is_listed s.details.host number) ∷ []
kinds period s (Reply number fate) =
    kind_if 8 (not (is_in_round s.turn)) ∷ kind_if 9 (is_listed s.details.replies number) ∷ []
kinds period s (Late number waits place) =
    kind_if 8 (not (is_in_round s.turn)) ∷ kind_if 9 (is_listed s.details.lates number) ∷ kind_if 12 (nat_lt 2 waits)
    ∷ []
kinds period s (Mid number told) =
    told_kinds period s told 1
    ++ kind_if 8 (not (is_in_round s.turn) || list_any is_due s.since)
    ∷ kind_if 10 (nat_lt most_records (s.records + 1))
    ∷ kind_if 13 (is_below_last s.details.mids number)
    ∷ kind_if 14 (nat_le most_mids (length s.details.mids))
    ∷ []
kinds period s (Stop stop) = kind_if 8 (is_neither s.turn) ∷ kind_if 9 (is_some s.stop) ∷ []

-- the first that applies
abbrev pub first_applying : List FaultKind → Option ℕ
first_applying [] = None
first_applying (k ∷ ks) = if k.applies then Some k.kind else first_applying ks
