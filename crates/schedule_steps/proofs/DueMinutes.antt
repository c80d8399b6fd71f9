-- The minutes at which the records of a schedule fall due, as far as its lines have said.
use Rattle.std.proofs.Common.{◌≡◌, ℕ, ◌+◌, ◌-◌, ◌*◌, ◌≤◌, ◌<◌, Bool, true, false, Option, Some, None, List, [], ◌∷◌, ◌++◌, length, refl, sym, ◌∙◌, subst, arith, lit≤}
use Rattle.std.specs.Prelude.{ℤ, nat_lt, nat_le, not, ◌||◌}
use Rattle.std.specs.List.{list_any}
use Rattle.std.proofs.lemmas.Bool.Decides.{nat_tests}
use Rattle.std.proofs.lemmas.Bool.{ltb-false}
use Rattle.station_base.specs.CivilMinute.{CivilMinute, minute_of, last_minute}
use Rattle.station_base.specs.declared.row.Row.{Row}
use Rattle.archive_record.specs.declared.record_read.RecordRead.{RecordRead}
use Rattle.archive_record.specs.declared.record_read.RecordRead.TheVariants.{Row as ReadRow}
use Rattle.schedule_file.specs.declared.schedule.form.Form.{Form}
use Rattle.schedule_file.specs.declared.schedule.form.Form.TheVariants.{Due, Run, Idle, Open, Round, Host, Reply, Late, Mid, Stop}
use Rattle.schedule_file.specs.declared.schedule.form.Told.{Told}
use Rattle.schedule_file.specs.declared.schedule.step.Stop as code
use Rattle.schedule_file.specs.declared.schedule.turn.Turn.{Turn}
use Rattle.schedule_file.specs.declared.schedule.turn.Turn.TheVariants.{Neither, Opening, InRound}
use Rattle.schedule_file.specs.Kinds.{FaultKind, kind_if, kinds, first_applying, told_kinds, count_kinds, is_no_stamp, is_not_later, has_no_record, is_in_round, is_due, is_below_last}
use Rattle.schedule_file.specs.Reading.{said_with_form}
use Rattle.schedule_file.specs.Steps.{MidRecord, Details, ScheduleStep, Said, nothing_said, no_details, turn_steps, steps_said, read_at, record_told, last_minute_of}
use Rattle.schedule_file.specs.Steps.ScheduleStep.{DueStep, RunStep, IdleStep, OpenStep, RoundStep}
use Rattle.schedule_file.proofs.Limits.{first_fails, rest_fails}
use Rattle.replay_laws.specs.Stopped.{IsStop}
use Rattle.schedule_steps.proofs.ReadForms.{CountsFromOne}
use Rattle.schedule_file.specs.Limits.{most_records, most_turns, most_mids}

-- a record that is read so falls due after minute a, and at minute b
pub record FallsAt (a : ℕ) (read : RecordRead) (b : ℕ) : Type 0 where
  pub row : Row
  pub reads : read ≡ ReadRow row
  pub later : a < minute_of row.stamp
  pub minute : minute_of row.stamp ≡ b

-- what comes first falls due up to some minute, and the rest after it
pub record FallInTurn (First Rest : ℕ → Type 0) : Type 0 where
  pub minute : ℕ
  pub first : First minute
  pub rest : Rest minute

-- a record of a round counts from 1 on, and falls due likewise
pub record MidFalls (a : ℕ) (mid : MidRecord) (b : ℕ) : Type 0 where
  pub counts : 1 ≤ mid.number
  pub falls : FallsAt a mid.record_read b

-- the records of a round fall due after minute a, and the last of them at minute b
abbrev pub MidsFall : ℕ → List MidRecord → ℕ → Type 0
MidsFall a [] b = a ≡ b
MidsFall a (x ∷ xs) b = FallInTurn (MidFalls a x) (λ m. MidsFall m xs b)

-- the records of a run fall due after minute a, and the last of them, which has a stamp, at minute b
pub record RunFalls (period a : ℕ) (read : RecordRead) (count b : ℕ) : Type 0 where
  pub minute : ℕ
  pub first : FallsAt a read minute
  pub stamped : minute + (count - 1) * period ≤ minute_of last_minute
  pub last : minute + (count - 1) * period ≡ b

-- a step with such a stop, which is of a change from 1 on, and with such records
pub record StoppedFall (stop : Option code.Stop) (Records : Type 0) : Type 0 where
  pub stops : IsStop stop
  pub records : Records

-- the records of a step likewise
abbrev pub Falls : ℕ → ℕ → ScheduleStep → ℕ → Type 0
Falls period a (DueStep read) b = FallsAt a read b
Falls period a (RunStep read count) b = RunFalls period a read count b
Falls period a (IdleStep ticks) b = a ≡ b
Falls period a (OpenStep stop) b = StoppedFall stop (a ≡ b)
Falls period a (RoundStep details stop) b = StoppedFall stop (MidsFall a details.mids b)

-- the records of all steps
abbrev pub AllFall : ℕ → ℕ → List ScheduleStep → ℕ → Type 0
AllFall period a [] b = a ≡ b
AllFall period a (x ∷ xs) b = FallInTurn (Falls period a x) (λ m. AllFall period m xs b)

-- no record falls due
pub open_falls : (a : ℕ) (stop : Option code.Stop) → IsStop stop → StoppedFall stop (a ≡ a)
open_falls a stop is = record { stops = is; records = refl }

-- how many of the steps open a session or make a round
abbrev pub line_in : ScheduleStep → ℕ
line_in (DueStep read) = 0
line_in (RunStep read count) = 0
line_in (IdleStep ticks) = 0
line_in (OpenStep stop) = 1
line_in (RoundStep details stop) = 1

abbrev pub lines_in : List ScheduleStep → ℕ
lines_in [] = 0
lines_in (x ∷ xs) = line_in x + lines_in xs

pub fall_join : (period a b c : ℕ) (xs ys : List ScheduleStep) → AllFall period a xs b → AllFall period b ys c → AllFall period a (xs ++ ys) c
fall_join period a b c [] ys fall more = subst (λ (m : ℕ). AllFall period m ys c) (sym fall) more
fall_join period a b c (x ∷ xs) ys fall more =
    record { minute = fall.minute; first = fall.first; rest = fall_join period fall.minute b c xs ys fall.rest more }

mids_join : (a b c : ℕ) (xs ys : List MidRecord) → MidsFall a xs b → MidsFall b ys c → MidsFall a (xs ++ ys) c
mids_join a b c [] ys fall more = subst (λ (m : ℕ). MidsFall m ys c) (sym fall) more
mids_join a b c (x ∷ xs) ys fall more =
    record { minute = fall.minute; first = fall.first; rest = mids_join fall.minute b c xs ys fall.rest more }

lines_join : (xs ys : List ScheduleStep) → lines_in (xs ++ ys) ≡ lines_in xs + lines_in ys
lines_join [] ys = omega arith
lines_join (x ∷ xs) ys = omega (arith, lines_join xs ys)

-- a step that may stand behind an `open` or a `round`
abbrev pub IsBetween : ScheduleStep → Type 0
IsBetween (DueStep read) = Unit {0}
IsBetween (RunStep read count) = Unit {0}
IsBetween (IdleStep ticks) = Unit {0}
IsBetween (OpenStep stop) = ⊥
IsBetween (RoundStep details stop) = ⊥

abbrev pub AreBetween : List ScheduleStep → Type 0
AreBetween [] = Unit {0}
AreBetween (x ∷ xs) = IsBetween x × AreBetween xs

between_more : (xs : List ScheduleStep) (x : ScheduleStep) → AreBetween xs → IsBetween x → AreBetween (xs ++ x ∷ [])
between_more [] y are is = (is, tt)
between_more (x ∷ xs) y are is = (are.0, between_more xs y are.1 is)

between_lines : (xs : List ScheduleStep) → AreBetween xs → lines_in xs ≡ 0
between_lines [] are = refl
between_lines (DueStep read ∷ xs) are = omega (arith, between_lines xs are.1)
between_lines (RunStep read count ∷ xs) are = omega (arith, between_lines xs are.1)
between_lines (IdleStep ticks ∷ xs) are = omega (arith, between_lines xs are.1)
between_lines (OpenStep stop ∷ xs) are = absurd are.0
between_lines (RoundStep details stop ∷ xs) are = absurd are.0

-- where none of the steps has a record, the minute stays
none_due : (period a b : ℕ) (xs : List ScheduleStep) → AreBetween xs → list_any is_due xs ≡ false → AllFall period a xs b → (c : ℕ) → AllFall period c xs c
none_due period a b [] are none fall c = refl
none_due period a b (DueStep read ∷ xs) are none fall c = absurd (let wrong : ⊥ = cc in wrong)
none_due period a b (RunStep read count ∷ xs) are none fall c = absurd (let wrong : ⊥ = cc in wrong)
none_due period a b (IdleStep ticks ∷ xs) are none fall c =
    record { minute = c; first = refl; rest = none_due period fall.minute b xs are.1 none fall.rest c }
none_due period a b (OpenStep stop ∷ xs) are none fall c = absurd are.0
none_due period a b (RoundStep details stop ∷ xs) are none fall c = absurd are.0

-- What the lines so far have said: the records fall due one after another, the last at the newest minute, and so many
-- lines opened a session or made a round.
pub record IsFalling (period : ℕ) (s : Said) : Type 0 where
  pub behind : ℕ
  pub within : ℕ
  pub before : AllFall period 0 s.before behind
  pub turn : AllFall period behind (turn_steps s.turn s.details s.stop) within
  pub since : AllFall period within s.since s.newest
  pub between : AreBetween s.since
  pub lines : lines_in s.before + lines_in (turn_steps s.turn s.details s.stop) ≡ s.turns
  pub few : s.turns ≤ most_turns

-- all that was said
pub all_fall : (period : ℕ) (s : Said) → IsFalling period s → AllFall period 0 (steps_said s) s.newest
all_fall period s f =
    let turn = turn_steps s.turn s.details s.stop in
    fall_join period 0 f.within s.newest (s.before ++ turn) s.since (fall_join period 0 f.behind f.within s.before turn f.before f.turn) f.since

pub all_lines : (period : ℕ) (s : Said) → IsFalling period s → lines_in (steps_said s) ≡ s.turns
all_lines period s f =
    let turn = turn_steps s.turn s.details s.stop in
    omega (arith, lines_join (s.before ++ turn) s.since, lines_join s.before turn, between_lines s.since f.between, f.lines)

above : (m n : ℕ) → nat_le m n ≡ false → n < m
above m n h = grind (arith, nat_tests, h)

-- the records of a line without a fault
read_by : (period a count : ℕ) (stamp : Option CivilMinute) (values : Option (List (Option ℤ))) → is_no_stamp period stamp count ≡ false → is_not_later a stamp ≡ false → has_no_record values ≡ false
    → RunFalls period a (read_at period stamp values) count (last_minute_of period stamp count)
read_by period a count None values stamped later known = cc
read_by period a count (Some stamp) None stamped later known = cc
read_by period a count (Some stamp) (Some values) stamped later known =
    let row : Row = record { stamp = stamp; interval = period; values = values; limited = 0 } in
    record {
      minute = minute_of stamp;
      first = record { row = row; reads = refl; later = above (minute_of stamp) a later; minute = refl };
      stamped = ltb-false (minute_of last_minute) (minute_of stamp + (count - 1) * period) stamped;
      last = refl;
    }

is_told : (period : ℕ) (s : Said) (told : Told) (count : ℕ) (more : List FaultKind) → first_applying (told_kinds period s told count ++ more) ≡ None
    → RunFalls period s.newest (record_told period told) count (last_minute_of period told.stamp count) × (first_applying more ≡ None)
is_told period s told count more none =
    let no_stamp = is_no_stamp period told.stamp count in
    let not_later = is_not_later s.newest told.stamp in
    let no_record = has_no_record told.values in
    let from_six = rest_fails no_stamp 5 (first_applying (kind_if 6 not_later ∷ kind_if 7 no_record ∷ more)) none in
    let from_seven = rest_fails not_later 6 (first_applying (kind_if 7 no_record ∷ more)) from_six in
    let falls = read_by period s.newest count told.stamp told.values
    (first_fails no_stamp 5 (first_applying (kind_if 6 not_later ∷ kind_if 7 no_record ∷ more)) none)
    (first_fails not_later 6 (first_applying (kind_if 7 no_record ∷ more)) from_six)
    (first_fails no_record 7 (first_applying more) from_seven) in
    (falls, rest_fails no_record 7 (first_applying more) from_seven)

no_more : (m period : ℕ) → m + (1 - 1) * period ≡ m
no_more m period = omega arith

-- what a further record says
one_told : (period : ℕ) (s : Said) (told : Told) → RunFalls period s.newest (record_told period told) 1 (last_minute_of period told.stamp 1)
    → FallsAt s.newest (record_told period told) (last_minute_of period told.stamp 1)
one_told period s told is = subst (FallsAt s.newest (record_told period told)) (sym (no_more is.minute period) ∙ is.last) is.first

-- a step more behind the last `open` or `round`
with_one : (period : ℕ) (s : Said) (f : IsFalling period s) (x : ScheduleStep) (newest : ℕ) → Falls period s.newest x newest → IsBetween x
    → AllFall period f.within (s.since ++ x ∷ []) newest × AreBetween (s.since ++ x ∷ [])
with_one period s f x newest falls between =
    (fall_join period f.within s.newest newest s.since (x ∷ []) f.since (record { minute = newest; first = falls; rest = refl }), between_more s.since x f.between between)

turn_falls : (period a : ℕ) (t : Turn) → AllFall period a (turn_steps t no_details None) a
turn_falls period a Neither = refl
turn_falls period a Opening = record { minute = a; first = open_falls a None tt; rest = refl }
turn_falls period a InRound = record { minute = a; first = open_falls a None tt; rest = refl }

-- an `open` or a `round` more
turned : (period : ℕ) (s : Said) (t : Turn) → lines_in (turn_steps t no_details None) ≡ 1 → IsFalling period s → s.turns + 1 ≤ most_turns
    → IsFalling period (record s { before = steps_said s; turn = t; details = no_details; stop = None; since = []; turns = s.turns + 1 })
turned period s t one f few = record {
  behind = s.newest;
  within = s.newest;
  before = all_fall period s f;
  turn = turn_falls period s.newest t;
  since = refl;
  between = tt;
  lines = omega (arith, one, all_lines period s f);
  few = few;
}

-- other fates and lateness of the same round
detailed : (period a b : ℕ) (t : Turn) (d e : Details) (stop : Option code.Stop) → d.mids ≡ e.mids → AllFall period a (turn_steps t d stop) b → AllFall period a (turn_steps t e stop) b
detailed period a b Neither d e stop same fall = fall
detailed period a b Opening d e stop same fall = fall
detailed period a b InRound d e stop same fall = record {
  minute = fall.minute;
  first = record {
    stops = fall.first.stops;
    records = subst (λ (mids : List MidRecord). MidsFall a mids fall.minute) same fall.first.records;
  };
  rest = fall.rest;
}

lines_same : (t : Turn) (d e : Details) (stop other : Option code.Stop) → lines_in (turn_steps t d stop) ≡ lines_in (turn_steps t e other)
lines_same Neither d e stop other = refl
lines_same Opening d e stop other = refl
lines_same InRound d e stop other = refl

with_details : (period : ℕ) (s : Said) (e : Details) → s.details.mids ≡ e.mids → IsFalling period s → IsFalling period (record s { details = e })
with_details period s e same f = record {
  behind = f.behind;
  within = f.within;
  before = f.before;
  turn = detailed period f.behind f.within s.turn s.details e s.stop same f.turn;
  since = f.since;
  between = f.between;
  lines = omega (arith, f.lines, lines_same s.turn s.details e s.stop s.stop);
  few = f.few;
}

-- a stop of the last `open` or `round`
stopped : (period a b : ℕ) (t : Turn) (d : Details) (old : Option code.Stop) (stop : code.Stop) → 1 ≤ stop.change → AllFall period a (turn_steps t d old) b → AllFall period a (turn_steps t d (Some stop)) b
stopped period a b Neither d old stop counts fall = fall
stopped period a b Opening d old stop counts fall =
    record { minute = fall.minute; first = record { stops = counts; records = fall.first.records }; rest = fall.rest }
stopped period a b InRound d old stop counts fall =
    record { minute = fall.minute; first = record { stops = counts; records = fall.first.records }; rest = fall.rest }

-- a record more in the last round
mid_added : (period a b m : ℕ) (t : Turn) (d : Details) (stop : Option code.Stop) (x : MidRecord) → is_in_round t ≡ true → 1 ≤ x.number → FallsAt b x.record_read m
    → AllFall period a (turn_steps t d stop) b → AllFall period a (turn_steps t (record d { mids = d.mids ++ x ∷ [] }) stop) m
mid_added period a b m Neither d stop x round counts falls fall = cc
mid_added period a b m Opening d stop x round counts falls fall = cc
mid_added period a b m InRound d stop x round counts falls fall =
    let last : MidsFall b (x ∷ []) m = record { minute = m; first = record { counts = counts; falls = falls }; rest = refl } in
    record {
      minute = m;
      first = record {
        stops = fall.first.stops;
        records = mids_join a b m d.mids (x ∷ []) (subst (MidsFall a d.mids) fall.rest fall.first.records) last;
      };
      rest = refl;
    }

in_round : (a b : Bool) → (not a || b) ≡ false → (a ≡ true) × (b ≡ false)
in_round true b none = (refl, none)
in_round false b none = cc

same_from : (period a b : ℕ) (xs : List ScheduleStep) → AreBetween xs → list_any is_due xs ≡ false → AllFall period a xs b → a ≡ b
same_from period a b [] are none fall = fall
same_from period a b (DueStep read ∷ xs) are none fall = absurd (let wrong : ⊥ = cc in wrong)
same_from period a b (RunStep read count ∷ xs) are none fall = absurd (let wrong : ⊥ = cc in wrong)
same_from period a b (IdleStep ticks ∷ xs) are none fall = fall.first ∙ same_from period fall.minute b xs are.1 none fall.rest
same_from period a b (OpenStep stop ∷ xs) are none fall = absurd are.0
same_from period a b (RoundStep details stop ∷ xs) are none fall = absurd are.0

pub falling_after : (period : ℕ) (s : Said) (form : Form) → CountsFromOne form → IsFalling period s → first_applying (kinds period s form) ≡ None → IsFalling period (said_with_form period s form)
falling_after period s (Due told) counts f none =
    let is = is_told period s told 1 (count_kinds s 1) none in
    let more = with_one period s f (DueStep (record_told period told)) (last_minute_of period told.stamp 1) (one_told period s told is.0) tt in
    record { behind = f.behind; within = f.within; before = f.before; turn = f.turn; since = more.0; between = more.1; lines = f.lines; few = f.few }
falling_after period s (Run first count) counts f none =
    let is = is_told period s first count (count_kinds s count) none in
    let more = with_one period s f (RunStep (record_told period first) count) (last_minute_of period first.stamp count) is.0 tt in
    record { behind = f.behind; within = f.within; before = f.before; turn = f.turn; since = more.0; between = more.1; lines = f.lines; few = f.few }
falling_after period s (Idle ticks) counts f none =
    let more = with_one period s f (IdleStep ticks) s.newest refl tt in
    record { behind = f.behind; within = f.within; before = f.before; turn = f.turn; since = more.0; between = more.1; lines = f.lines; few = f.few }
falling_after period s Open counts f none =
    turned period s Opening refl f (ltb-false most_turns (s.turns + 1) (first_fails (nat_lt most_turns (s.turns + 1)) 11 None none))
falling_after period s Round counts f none =
    turned period s InRound refl f (ltb-false most_turns (s.turns + 1) (first_fails (nat_lt most_turns (s.turns + 1)) 11 None none))
falling_after period s (Host number fate) counts f none = with_details period s _ refl f
falling_after period s (Reply number fate) counts f none = with_details period s _ refl f
falling_after period s (Late number waits place) counts f none = with_details period s _ refl f
falling_after period s (Mid number told) counts f none =
    let misplaced : Bool = not (is_in_round s.turn) || list_any is_due s.since in
    let behind : List FaultKind = kind_if 10 (nat_lt most_records (s.records + 1)) ∷ kind_if 13 (is_below_last s.details.mids number) ∷ kind_if 14 (nat_le most_mids (length s.details.mids)) ∷ [] in
    let is = is_told period s told 1 (kind_if 8 misplaced ∷ behind) none in
    let placed = in_round (is_in_round s.turn) (list_any is_due s.since) (first_fails misplaced 8 (first_applying behind) is.1) in
    let x : MidRecord = record { number = number; record_read = record_told period told } in
    let newest = last_minute_of period told.stamp 1 in
    let same = same_from period f.within s.newest s.since f.between placed.1 f.since in
    let falls = subst (λ (m : ℕ). FallsAt m (record_told period told) newest) (sym same) (one_told period s told is.0) in
    let e : Details = record s.details { mids = s.details.mids ++ x ∷ [] } in
    record {
      behind = f.behind;
      within = newest;
      before = f.before;
      turn = mid_added period f.behind f.within newest s.turn s.details s.stop x placed.0 counts falls f.turn;
      since = none_due period f.within s.newest s.since f.between placed.1 f.since newest;
      between = f.between;
      lines = omega (arith, f.lines, lines_same s.turn s.details e s.stop s.stop);
      few = f.few;
    }
falling_after period s (Stop stop) counts f none = record {
  behind = f.behind;
  within = f.within;
  before = f.before;
  turn = stopped period f.behind f.within s.turn s.details s.stop stop counts f.turn;
  since = f.since;
  between = f.between;
  lines = omega (arith, f.lines, lines_same s.turn s.details s.details s.stop (Some stop));
  few = f.few;
}

pub falling_first : (period : ℕ) → IsFalling period nothing_said
falling_first period = record { behind = 0; within = 0; before = refl; turn = refl; since = refl; between = tt; lines = refl; few = lit≤ tt }
