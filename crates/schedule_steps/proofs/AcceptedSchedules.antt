-- An accepted schedule keeps the rules of a run.
use Rattle.std.proofs.Common.{◌≡◌, ℕ, suc, ◌+◌, ◌-◌, ◌*◌, ◌≤◌, Bool, true, false, List, [], ◌∷◌, length, length-append, map, Option, Some, Ok, refl, sym, ap, ◌∙◌, subst, arith}
use Rattle.std.specs.Prelude.{if◌then◌else◌, nat_lt}
use Rattle.std.specs.List.{AllByRecursion}
use Rattle.std.specs.Option.{IsSomeAnd}
use Rattle.std.proofs.lemmas.Bool.Decides.{nat_tests}
use Rattle.station_base.specs.CivilMinute.{CivilMinute, minute_of, last_minute}
use Rattle.station_base.specs.Period.{IsPeriod}
use Rattle.archive_record.specs.Reading.{stamp_in}
use Rattle.schedule_file.specs.declared.fates.Mid.{Mid}
use Rattle.schedule_file.specs.declared.schedule.Schedule.{Schedule}
use Rattle.schedule_file.specs.declared.schedule.step.Step as code_step
use Rattle.schedule_file.specs.declared.schedule.step.Step.TheVariants as code
use Rattle.schedule_file.specs.Lists.{records_left_in}
use Rattle.schedule_file.specs.Answer.{ScheduleReadsAs}
use Rattle.schedule_file.specs.Reading.{said_by_text}
use Rattle.schedule_file.specs.Steps.{records_in_steps, mid_seen, steps_seen}
use Rattle.station_sim.specs.Sound.{AreRecords}
use Rattle.station_sim.proofs.Falls.{fates_sound, left_records}
use Rattle.schedule_file.proofs.Limits.{few_records}
use Rattle.replay_laws.specs.Room.{lines}
use Rattle.replay_laws.specs.Schedule.{AreSteps, IsSchedule, records}
use Rattle.line_laws.proofs.FallsInOrder.{fates_fall}
use Rattle.schedule_steps.specs.Accepted.{AreAccepted, HasRecord, IsInRange, ScheduleIsAccepted}
use Rattle.schedule_steps.specs.Runs.{run_records}
use Rattle.schedule_steps.specs.Steps.{steps_for}
use Rattle.schedule_steps.proofs.DueMinutes.{MidsFall, AllFall, lines_in, IsFalling, all_fall, all_lines, falling_after, falling_first}
use Rattle.schedule_file.proofs.Kept.{steps_kept}
use Rattle.schedule_steps.proofs.ReadForms.{form_counts}
use Rattle.archive_record.proofs.MovedStamps.{row_of}
use Rattle.schedule_steps.proofs.RisingRecords.{Rise, rise_join, records_join, rise_follows, run_is}
use Rattle.schedule_file.specs.Limits.{most_records, most_turns}

-- all records of a round are to fall due after its beginning, and their stamps rise
mids_are : (period a b : ℕ) (xs : List Mid) → MidsFall a (map (mid_seen period) xs) b
    → Rise a (records_left_in xs 0) b × (length (records_left_in xs 0) ≡ length (map (mid_seen period) xs))
mids_are period a b [] fall = (omega (arith, fall), refl)
mids_are period a b (x ∷ xs) fall =
    let due = fall.first.falls in
    let first : nat_lt 0 x.number ≡ true = grind (arith, nat_tests, fall.first.counts) in
    go (nat_lt 0 x.number) first (row_of x.rec period due.row due.reads).0 (mids_are period fall.minute b xs fall.rest)
  where
    go : (t : Bool) → t ≡ true → stamp_in x.rec ≡ Some fall.first.falls.row.stamp
        → Rise fall.minute (records_left_in xs 0) b × (length (records_left_in xs 0) ≡ length (map (mid_seen period) xs))
        → Rise a (if t then x.rec ∷ records_left_in xs 0 else records_left_in xs 0) b × (length (if t then x.rec ∷ records_left_in xs 0 else records_left_in xs 0) ≡ suc (length (map (mid_seen period) xs)))
    go true first stamp rest =
        let due = fall.first.falls in
        ((due.row.stamp, stamp, due.later, subst (λ (m : ℕ). Rise m (records_left_in xs 0) b) (sym due.minute) rest.0), ap suc rest.1)
    go false first stamp rest = cc

-- What some steps are as steps of a run: their records come after minute a and up to minute b.
record AreTaken (period a b : ℕ) (steps : List code_step.Step) : Type 0 where
  rise : Rise a (records (steps_for period steps)) b
  are : AreRecords (records (steps_for period steps))
  each : AreSteps (steps_for period steps)
  ranges : AllByRecursion (IsInRange period) steps
  lines_are : lines (steps_for period steps) ≡ lines_in (steps_seen period steps)
  counted : length (records (steps_for period steps)) ≡ records_in_steps (steps_seen period steps)

taken : (period : ℕ) → 1 ≤ period → (steps : List code_step.Step) (a b : ℕ) → AllFall period a (steps_seen period steps) b → AllByRecursion HasRecord steps → AreTaken period a b steps
taken period long [] a b fall has = record { rise = omega (arith, fall); are = tt; each = tt; ranges = tt; lines_are = refl; counted = refl }
taken period long (code.Due rec ∷ steps) a b fall has =
    let m = fall.minute in
    let due = fall.first in
    let row = row_of rec period due.row due.reads in
    let rest = taken period long steps m b fall.rest has.1 in
    let others = records (steps_for period steps) in
    record {
      rise = rise_join a m b (rec ∷ []) others (due.row.stamp, row.0, due.later, omega (arith, due.minute)) rest.rise;
      are = records_join (rec ∷ []) others (has.0, row.1, tt) rest.are;
      each = (tt, rest.each);
      ranges = (tt, rest.ranges);
      lines_are = omega (arith, rest.lines_are);
      counted = omega (arith, rest.counted);
    }
taken period long (code.Run first count ∷ steps) a b fall has =
    let m = fall.minute in
    let due = fall.first.first in
    let stamp = due.row.stamp in
    let row = row_of first period due.row due.reads in
    let rest = taken period long steps m b fall.rest has.1 in
    let others = records (steps_for period steps) in
    let run = run_is period count a first stamp long row.0 due.later (omega (arith, fall.first.stamped, due.minute)) has.0 row.1 in
    let end : minute_of stamp + (count - 1) * period ≡ m = omega (arith, fall.first.last, due.minute) in
    record {
      rise = rise_join a m b (run_records period first count) others (subst (Rise a (run_records period first count)) end run.rise) rest.rise;
      are = records_join (run_records period first count) others run.are rest.are;
      each = (tt, rest.each);
      ranges = (subst (λ (s : Option CivilMinute). IsSomeAnd s (λ t. minute_of t + (count - 1) * period ≤ minute_of last_minute)) (sym row.0) (omega (arith, fall.first.stamped, due.minute)), rest.ranges);
      lines_are = omega (arith, rest.lines_are);
      counted = omega (arith, rest.counted, run.count_is, length-append (run_records period first count) others);
    }
taken period long (code.Idle ticks ∷ steps) a b fall has =
    let rest = taken period long steps fall.minute b fall.rest has.1 in
    record {
      rise = subst (λ (m : ℕ). Rise m (records (steps_for period steps)) b) (sym fall.first) rest.rise;
      are = rest.are;
      each = (tt, rest.each);
      ranges = (tt, rest.ranges);
      lines_are = omega (arith, rest.lines_are);
      counted = omega (arith, rest.counted);
    }
taken period long (code.Open stop ∷ steps) a b fall has =
    let rest = taken period long steps fall.minute b fall.rest has.1 in
    record {
      rise = subst (λ (m : ℕ). Rise m (records (steps_for period steps)) b) (sym fall.first.records) rest.rise;
      are = rest.are;
      each = (tt, rest.each);
      ranges = (fall.first.stops, rest.ranges);
      lines_are = omega (arith, rest.lines_are);
      counted = omega (arith, rest.counted);
    }
taken period long (code.Round fates stop ∷ steps) a b fall has =
    let m = fall.minute in
    let rest = taken period long steps m b fall.rest has.1 in
    let others = records (steps_for period steps) in
    let mids = mids_are period a m fates.mids.items fall.first.records in
    let left = records_left_in fates.mids.items 0 in
    record {
      rise = rise_join a m b left others mids.0 rest.rise;
      are = records_join left others (left_records fates.mids.items 0) rest.are;
      each = ((fates_sound fates, fates_fall fates), rest.each);
      ranges = (fall.first.stops, rest.ranges);
      lines_are = omega (arith, rest.lines_are);
      counted = omega (arith, rest.counted, mids.1, length-append left others);
    }

-- Steps whose records fall due one after another keep the rules of a run, where they are few.
pub falling_accepted : (period b : ℕ) (steps : List code_step.Step) → 1 ≤ period → AllFall period 0 (steps_seen period steps) b → AllByRecursion HasRecord steps → lines_in (steps_seen period steps) ≤ most_turns
    → records_in_steps (steps_seen period steps) ≤ most_records → AreAccepted period steps × (length (records (steps_for period steps)) ≡ records_in_steps (steps_seen period steps))
falling_accepted period b steps long fall has few_lines few =
    let t = taken period long steps 0 b fall has in
    let rules : IsSchedule (steps_for period steps) = record { each = t.each; rises = rise_follows b (records (steps_for period steps)) t.rise; are_records = t.are } in
    (record { rules = rules; ranges = t.ranges; few_lines = omega (arith, t.lines_are, few_lines); few_records = omega (arith, t.counted, few) }, t.counted)

long_period : (period : ℕ) → IsPeriod period → 1 ≤ period
long_period period is = grind (arith, nat_tests)

pub accepted : (bytes : List ℕ) (schedule : Schedule) → IsPeriod schedule.period → AllByRecursion HasRecord schedule.steps.items
    → ScheduleReadsAs (said_by_text bytes schedule.period) (Ok schedule) → ScheduleIsAccepted schedule
accepted bytes schedule is_period has reads =
    let period = schedule.period in
    let steps = schedule.steps.items in
    let said = reads.0 in
    let fall = steps_kept period (IsFalling period) (λ words form read s falling none. falling_after period s form (form_counts words form read) falling none) bytes said (falling_first period) reads.1 in
    let all = subst (λ (seen : List _). AllFall period 0 seen said.newest) (sym reads.2.steps) (all_fall period said fall) in
    let t = taken period (long_period period is_period) steps 0 said.newest all has in
    record {
      rules = record { each = t.each; rises = rise_follows said.newest (records (steps_for period steps)) t.rise; are_records = t.are };
      ranges = t.ranges;
      few_lines = omega (arith, t.lines_are, ap lines_in reads.2.steps, all_lines period said fall, fall.few);
      few_records = omega (arith, t.counted, schedule.counted, reads.2.records, few_records bytes period said reads.1);
      counted = t.counted ∙ sym schedule.counted;
    }
