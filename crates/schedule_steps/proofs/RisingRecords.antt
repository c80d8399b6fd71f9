-- Records whose stamps rise from one minute to another.
use Rattle.std.proofs.Common.{◌≡◌, ℕ, zero, suc, ◌+◌, ◌-◌, ◌*◌, ◌≤◌, ◌<◌, List, [], ◌∷◌, ◌++◌, length, Option, Some, None, IfSome, refl, sym, ap, ◌∙◌, subst, arith}
use Rattle.std.specs.Option.{IsSomeAnd}
use Rattle.station_base.specs.CivilMinute.{CivilMinute, minute_of, last_minute}
use Rattle.archive_record.specs.Reading.{stamp_in}
use Rattle.archive_record.specs.Record.{IsRecord, ReadsAsRow}
use Rattle.console_ring.specs.History.{newest_stamp}
use Rattle.console_model.specs.Valid.{EachFollows}
use Rattle.station_sim.specs.Sound.{AreRecords}
use Rattle.line_laws.proofs.Levels.{newest_more}
use Rattle.archive_record.specs.MovedOn.{minute_numbered}
use Rattle.archive_record.proofs.MovedStamps.{record_given, row_given}
use Rattle.schedule_steps.specs.Runs.{next_record, run_records}
use Rattle.schedule_steps.proofs.RunRecords.{two_more, one_more}
use Rattle.schedule_steps.proofs.NextStamps.{moved_to}

-- the stamps of the records rise from after minute a up to minute b
abbrev pub Rise : ℕ → List (List ℕ) → ℕ → Type 0
Rise a [] b = a ≤ b
Rise a (r ∷ rs) b = (s : CivilMinute) × (stamp_in r ≡ Some s) × (a < minute_of s) × Rise (minute_of s) rs b

rise_later : (a b c : ℕ) (rs : List (List ℕ)) → a ≤ b → Rise b rs c → Rise a rs c
rise_later a b c [] le rise = omega (arith, le, rise)
rise_later a b c (r ∷ rs) le rise = (rise.0, rise.1, omega (arith, le, rise.2), rise.3)

pub rise_join : (a b c : ℕ) (rs ss : List (List ℕ)) → Rise a rs b → Rise b ss c → Rise a (rs ++ ss) c
rise_join a b c [] ss rise more = rise_later a b c ss rise more
rise_join a b c (r ∷ rs) ss rise more = (rise.0, rise.1, rise.2, rise_join (minute_of rise.0) b c rs ss rise.3 more)

-- no stamp of a history comes after this minute
IsUpTo : ℕ → Option CivilMinute → Type 0
IsUpTo a newest = IfSome newest (λ n. minute_of n ≤ a)

extends_by : (a : ℕ) (newest stamp : Option CivilMinute) (s : CivilMinute) → IsUpTo a newest → stamp ≡ Some s → a < minute_of s → IsSomeAnd stamp (λ t. IfSome newest (λ n. minute_of n < minute_of t))
unfolding IsUpTo
extends_by a None None s up is lt = cc
extends_by a None (Some t) s up is lt = tt
extends_by a (Some n) None s up is lt = cc
extends_by a (Some n) (Some t) s up is lt = let same : minute_of t ≡ minute_of s = ap minute_of (cc) in omega (arith, up, lt, same)

up_to : (newest : Option CivilMinute) (s : CivilMinute) → newest ≡ Some s → IsUpTo (minute_of s) newest
unfolding IsUpTo
up_to None s is = tt
up_to (Some n) s is = let same : minute_of n ≡ minute_of s = ap minute_of (cc) in omega (arith, same)

follows_from : (a b : ℕ) (history rs : List (List ℕ)) → IsUpTo a (newest_stamp history) → Rise a rs b → EachFollows history rs
follows_from a b history [] up rise = tt
follows_from a b history (r ∷ rs) up rise = (
  extends_by a (newest_stamp history) (stamp_in r) rise.0 up rise.1 rise.2,
  follows_from (minute_of rise.0) b (history ++ r ∷ []) rs (up_to (newest_stamp (history ++ r ∷ [])) rise.0 (newest_more history r ∙ rise.1)) rise.3,
)

-- records whose stamps rise can follow one another
pub rise_follows : (b : ℕ) (rs : List (List ℕ)) → Rise 0 rs b → EachFollows [] rs
unfolding IsUpTo
rise_follows b rs rise = follows_from 0 b [] rs tt rise

pub records_join : (rs ss : List (List ℕ)) → AreRecords rs → AreRecords ss → AreRecords (rs ++ ss)
records_join [] ss are more = more
records_join (r ∷ rs) ss are more = (are.0, are.1, records_join rs ss are.2 more)

-- What the records of a run are.
pub record IsRunOf (a b : ℕ) (rs : List (List ℕ)) (count : ℕ) : Type 0 where
  pub rise : Rise a rs b
  pub are : AreRecords rs
  pub count_is : length rs ≡ count

-- so many records from one of this stamp on, with stamps each a period after the one before
pub run_is : (period count a : ℕ) (first : List ℕ) (s : CivilMinute) → 1 ≤ period → stamp_in first ≡ Some s → a < minute_of s → minute_of s + (count - 1) * period ≤ minute_of last_minute
    → IsRecord first → ReadsAsRow first → IsRunOf a (minute_of s + (count - 1) * period) (run_records period first count) count
run_is period zero a first s long is lt within size row = record { rise = omega (arith, lt); are = tt; count_is = refl }
run_is period (suc zero) a first s long is lt within size row = record { rise = (s, is, lt, omega arith); are = (size, row, tt); count_is = refl }
run_is period (suc (suc count)) a first s long is lt within size row =
    let moved = moved_to period first s is (omega (arith, within, two_more period count)) in
    let next = minute_numbered (minute_of s + period) in
    let rest = run_is period (suc count) (minute_of s) (next_record period first) next long moved.stamp_is (omega (arith, long, moved.later))
    (omega (arith, within, moved.later, two_more period count, one_more period count))
    (subst IsRecord (sym moved.is) (record_given next first size))
    (subst ReadsAsRow (sym moved.is) (row_given next first moved.civil size row)) in
    let end : minute_of next + (suc count - 1) * period ≡ minute_of s + (suc (suc count) - 1) * period =
    omega (arith, moved.later, two_more period count, one_more period count) in
    record {
      rise = (s, is, lt, subst (Rise (minute_of s) (run_records period (next_record period first) (suc count))) end rest.rise);
      are = (size, row, rest.are);
      count_is = omega (arith, rest.count_is);
    }
