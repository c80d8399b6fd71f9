-- The steps that are made keep the rules of a schedule.
use Rattle.std.proofs.Common.{◌≡◌, ℕ, zero, suc, ◌+◌, ◌*◌, ◌/◌, ◌%◌, ◌≤◌, ◌<◌, ◌==◌, ◌||◌, Bool, true, false, if◌then◌else◌, List, [], ◌∷◌, ◌++◌, length, Some, None, refl, sym, ◌∙◌, ap, subst, arith}
use Rattle.std.specs.Prelude.{pos, unsigned_abs}
use Rattle.std.specs.List.{AllByRecursion}
use Rattle.std.proofs.lemmas.Bool.Decides.{nat_tests}
use Rattle.jiff_core.proofs.CalendarLemmas.{days_in_month_bounds}
use Rattle.jiff_core.specs.Calendar.{day_count, days_from_civil, days_of_months, days_of_years}
use Rattle.station_base.specs.CivilMinute.{IsCivilMinute, minute_of}
use Rattle.station_base.proofs.Minutes.{last_minute_number}
use Rattle.schedule_file.specs.declared.schedule.step.Step as code_step
use Rattle.schedule_file.specs.Steps.{MidRecord, ScheduleStep, no_details, records_in_steps, steps_seen}
use Rattle.replay_laws.specs.Schedule.{records}
use Rattle.replay_laws.specs.Stopped.{IsStop}
use Rattle.schedule_steps.specs.Accepted.{AreAccepted, HasRecord}
use Rattle.schedule_steps.specs.Steps.{steps_for}
use Rattle.schedule_steps.proofs.AcceptedSchedules.{falling_accepted}
use Rattle.schedule_steps.proofs.DueMinutes.{AllFall, MidsFall, lines_in, open_falls}
use Rattle.archive_record.proofs.MovedStamps.{IsNumbered, numbered_after}
use Rattle.draws.specs.Draws.{drawn, next_draw}
use Rattle.made_run.specs.Made.{after_rounds, details_of, due_after, due_row, due_step, first_due, host_lost, is_round, kind_drawn, made_steps, reply_cut, reply_late, rounds_behind, steps_from, stop_drawn, stop_of_kind}

-- 2024-01-01 is day 19,723
first_day : days_from_civil (pos 2024) 1 1 ≡ pos 19723
unfolding days_from_civil day_count days_of_years days_of_months
first_day = refl

pub first_due_number : minute_of first_due ≡ 28401125
first_due_number = omega (arith, ap unsigned_abs first_day)

pub first_civil : IsCivilMinute first_due
first_civil = record {
  year_from = omega arith;
  year_to = omega arith;
  month_from = omega arith;
  month_to = omega arith;
  day_from = omega arith;
  day_to = omega (arith, (days_in_month_bounds (pos 2024) 1).1);
  hour_to = omega arith;
  minute_to = omega arith;
}

-- the minute of a record
pub due_numbered : (minutes : ℕ) → minutes ≤ 30000 → IsNumbered (minute_of first_due + minutes) (due_after minutes)
due_numbered minutes few = numbered_after first_due minutes first_civil (omega (arith, few, first_due_number, last_minute_number))

no_mids : (a b c : Bool) → (if a then host_lost else (if b then reply_cut else (if c then reply_late else no_details))).mids ≡ []
no_mids true b c = refl
no_mids false true c = refl
no_mids false false true = refl
no_mids false false false = refl

pub mids_none : (kind : ℕ) → (details_of kind).mids ≡ []
mids_none kind = no_mids (kind == 4) (kind == 5) (kind == 6)

stop_by : (t : Bool) (x : ℕ) → IsStop (if t then Some (stop_drawn x) else None)
stop_by true x = omega arith
stop_by false x = tt

is_stop : (kind x : ℕ) → IsStop (stop_of_kind kind x)
is_stop kind x = stop_by (kind == 7) x

-- the records fall due one after another
behind_falls : (t : Bool) (y m b : ℕ) (rest : List ScheduleStep) → AllFall 5 m rest b → AllFall 5 m (rounds_behind t y ++ rest) b
behind_falls true y m b rest fall =
    record {
      minute = m;
      first = record {
        stops = is_stop (kind_drawn y) (next_draw y);
        records = subst (λ (ms : List MidRecord). MidsFall m ms m) (sym (mids_none (kind_drawn y))) refl;
      };
      rest = fall;
    }
behind_falls false y m b rest fall = fall

pub made_falls : (left number x a : ℕ) → number + left ≤ 5000 → a < minute_of first_due + 5 * number → (b : ℕ) × AllFall 5 a (steps_from left number x) b
made_falls zero number x a few before = (a, record { minute = a; first = open_falls a None tt; rest = refl })
made_falls (suc left) number x a few before =
    let at = due_numbered (5 * number) (omega (arith, few)) in
    let m = minute_of (due_after (5 * number)) in
    let y = next_draw (next_draw x) in
    let t = is_round (number + 1) left in
    let row = due_row number (drawn (next_draw x)) (drawn (next_draw (next_draw x))) in
    let rest = made_falls left (number + 1) (after_rounds t y) m (omega (arith, few)) (omega (arith, at.number)) in
    let behind = behind_falls t y m rest.0 (steps_from left (number + 1) (after_rounds t y)) rest.1 in (
      rest.0,
      record {
        minute = m;
        first = record { row = row; reads = refl; later = omega (arith, before, at.number); minute = refl };
        rest = behind;
      },
    )

-- how many rounds are made
lines_behind : (t : Bool) (y : ℕ) (rest : List ScheduleStep) → lines_in (rounds_behind t y ++ rest) ≤ 1 + lines_in rest
lines_behind true y rest = omega arith
lines_behind false y rest = omega arith

lines_due : (number x : ℕ) (rest : List ScheduleStep) → lines_in (due_step number x ∷ rest) ≡ lines_in rest
lines_due number x rest = omega arith

pub made_lines : (left number x : ℕ) → lines_in (steps_from left number x) + number / 60 ≤ (number + left) / 60 + 2
made_lines zero number x = omega arith
made_lines (suc zero) number x =
    let t = is_round (number + 1) 0 in
    let y = next_draw (next_draw x) in
    omega (arith, lines_behind t y (steps_from 0 (number + 1) (after_rounds t y)))
made_lines (suc (suc left)) number x =
    let few = go ((number + 1) % 60 == 0) refl (made_lines (suc left) (number + 1) (after_rounds true (next_draw (next_draw x)))) (made_lines (suc left) (number + 1) (next_draw (next_draw x))) in
    let t = is_round (number + 1) (suc left) in
    let more : (suc left == 0) ≡ false = grind (arith, nat_tests) in
    let few_too = subst
    (λ (b : Bool). lines_in (rounds_behind ((number + 1) % 60 == 0 || b) (next_draw (next_draw x)) ++ steps_from (suc left) (number + 1) (after_rounds ((number + 1) % 60 == 0 || b) (next_draw (next_draw x)))) + number / 60 ≤ (number + suc (suc left)) / 60 + 2)
    (sym more) few in
    subst (λ (n : ℕ). n + number / 60 ≤ (number + suc (suc left)) / 60 + 2) (sym (lines_due number x (rounds_behind t (next_draw (next_draw x)) ++ steps_from (suc left) (number + 1) (after_rounds t (next_draw (next_draw x)))))) few_too
  where
    go : (t : Bool) → ((number + 1) % 60 == 0) ≡ t → lines_in (steps_from (suc left) (number + 1) (after_rounds true (next_draw (next_draw x)))) + (number + 1) / 60 ≤ (number + 1 + suc left) / 60 + 2
        → lines_in (steps_from (suc left) (number + 1) (next_draw (next_draw x))) + (number + 1) / 60 ≤ (number + 1 + suc left) / 60 + 2
        → lines_in (rounds_behind (t || false) (next_draw (next_draw x)) ++ steps_from (suc left) (number + 1) (after_rounds (t || false) (next_draw (next_draw x)))) + number / 60 ≤ (number + suc (suc left)) / 60 + 2
    go true is with_round without =
        let whole : (number + 1) % 60 ≡ 0 = grind (arith, nat_tests, is) in
        omega (arith, whole, with_round)
    go false is with_round without = omega (arith, without)

records_behind : (t : Bool) (y : ℕ) (rest : List ScheduleStep) → records_in_steps (rounds_behind t y ++ rest) ≡ records_in_steps rest
records_behind true y rest = let none : length (details_of (kind_drawn y)).mids ≡ 0 = ap length (mids_none (kind_drawn y)) in omega (arith, none)
records_behind false y rest = refl

pub made_records : (left number x : ℕ) → records_in_steps (steps_from left number x) ≡ left
made_records zero number x = refl
made_records (suc left) number x =
    let t = is_round (number + 1) left in
    let y = next_draw (next_draw x) in
    omega (arith, records_behind t y (steps_from left (number + 1) (after_rounds t y)), made_records left (number + 1) (after_rounds t y))

pub made_accepted : (seed count : ℕ) (steps : List code_step.Step) → count ≤ 5000 → steps_seen 5 steps ≡ made_steps seed count → AllByRecursion HasRecord steps
    → AreAccepted 5 steps × (length (records (steps_for 5 steps)) ≡ count)
made_accepted seed count steps few made has =
    let falls = made_falls count 0 seed 0 (omega (arith, few)) (omega (arith, first_due_number)) in
    let lines = ap lines_in made in
    let all = ap records_in_steps made ∙ made_records count 0 seed in
    let accepted = falling_accepted 5 falls.0 steps (omega arith) (subst (λ (xs : List ScheduleStep). AllFall 5 0 xs falls.0) (sym made) falls.1) has
    (omega (arith, few, lines, made_lines count 0 seed)) (omega (arith, few, all)) in
    (accepted.0, accepted.1 ∙ all)
