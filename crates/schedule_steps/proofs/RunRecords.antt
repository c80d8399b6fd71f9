-- The records of a run, one after another.
use Rattle.std.proofs.Common.{◌≡◌, ℕ, zero, suc, ◌+◌, ◌-◌, ◌*◌, ◌≤◌, List, [], Option, Some, None, refl, sym, ap, ◌∙◌, subst, arith}
use Rattle.std.specs.Option.{IsSomeAnd, unwrap_or}
use Rattle.station_base.specs.CivilMinute.{CivilMinute, minute_of, last_minute}
use Rattle.archive_record.specs.Reading.{stamp_in}
use Rattle.archive_record.specs.MovedOn.{moved_on}
use Rattle.schedule_steps.specs.Runs.{next_record, run_records, IsRun}
use Rattle.schedule_steps.proofs.NextStamps.{moved_to}

-- a stamp behind which so many records of the period have stamps
IsFirst : ℕ → ℕ → Option CivilMinute → Type 0
IsFirst period count stamp = IsSomeAnd stamp (λ s. minute_of s + (count - 1) * period ≤ minute_of last_minute)

pub two_more : (period count : ℕ) → (suc (suc count) - 1) * period ≡ period + count * period
two_more period count = ap (λ n. n * period) (let e : suc (suc count) - 1 ≡ suc count = omega arith in e) ∙ (let e : suc count * period ≡ period + count * period = omega arith in e)

pub one_more : (period count : ℕ) → (suc count - 1) * period ≡ count * period
one_more period count = ap (λ n. n * period) (let e : suc count - 1 ≡ count = omega arith in e)

on_by : (period count : ℕ) (rec : List ℕ) (stamp : Option CivilMinute) → stamp_in rec ≡ stamp → IsFirst period (suc (suc count)) stamp → IsFirst period (suc count) (stamp_in (next_record period rec))
unfolding IsFirst
on_by period count rec None is run = absurd run
on_by period count rec (Some stamp) is run =
    let moved = moved_to period rec stamp is (omega (arith, run, two_more period count)) in
    subst (IsFirst period (suc count)) (sym moved.stamp_is) (omega (arith, run, two_more period count, one_more period count, moved.later))

-- behind the first record of a run comes a run
pub run_on : (period count : ℕ) (rec : List ℕ) → IsRun period rec (suc (suc count)) → IsRun period (next_record period rec) (suc count)
unfolding IsFirst
run_on period count rec run = on_by period count rec (stamp_in rec) refl run

pair_by : (period count : ℕ) (stamp : Option CivilMinute) → IsFirst period (suc (suc count)) stamp → IsFirst period 2 stamp
unfolding IsFirst
pair_by period count None run = absurd run
pair_by period count (Some stamp) run = omega (arith, run, two_more period count)

-- its first two records are a run
pub run_of_two : (period count : ℕ) (rec : List ℕ) → IsRun period rec (suc (suc count)) → IsRun period rec 2
unfolding IsFirst
run_of_two period count rec run = pair_by period count (stamp_in rec) run

-- the records of a run that are left, the next of which is this
abbrev pub left_of : ℕ → Option (List ℕ) → ℕ → List (List ℕ)
left_of period None count = []
left_of period (Some rec) count = run_records period rec count

-- so many are left
abbrev pub IsLeft : ℕ → Option (List ℕ) → ℕ → Type 0
IsLeft period next zero = Unit {0}
IsLeft period None (suc count) = ⊥
IsLeft period (Some rec) (suc count) = IsRun period rec (suc count)

pub all_left : (period : ℕ) (first : List ℕ) (count : ℕ) → IsRun period first count → IsLeft period (Some first) count
all_left period first zero run = tt
all_left period first (suc count) run = run

pub none_left : (period : ℕ) (next : Option (List ℕ)) → left_of period next 0 ≡ []
none_left period None = refl
none_left period (Some rec) = refl

next_by : (period : ℕ) (rec : List ℕ) (stamp : Option CivilMinute) → stamp_in rec ≡ stamp → IsFirst period 2 stamp → moved_on period rec ≡ Some (next_record period rec)
unfolding IsFirst
next_by period rec None is run = absurd run
next_by period rec (Some stamp) is run =
    let moved = moved_to period rec stamp is (omega (arith, run)) in
    moved.given ∙ ap (λ (r : List ℕ). Some r) (sym moved.is)

-- a record of a run behind which one comes is moved on to that one
pub run_next : (period : ℕ) (rec : List ℕ) → IsRun period rec 2 → moved_on period rec ≡ Some (next_record period rec)
unfolding IsFirst
run_next period rec run = next_by period rec (stamp_in rec) refl run

-- those left behind the first of a run, which is moved on to the next one
pub next_left : (period count : ℕ) (rec : List ℕ) (next : Option (List ℕ)) → next ≡ moved_on period rec → IsRun period rec (suc count)
    → IsLeft period next count × (left_of period next count ≡ run_records period (next_record period rec) count)
next_left period zero rec next is run = (tt, none_left period next)
next_left period (suc count) rec None is run = (let some = is ∙ run_next period rec (run_of_two period count rec run) in cc)
next_left period (suc count) rec (Some later) is run =
    let same : later ≡ next_record period rec = ap (λ (o : Option (List ℕ)). unwrap_or o rec) is in
    (subst (λ (r : List ℕ). IsRun period r (suc count)) (sym same) (run_on period count rec run), ap (λ (r : List ℕ). run_records period r (suc count)) same)
