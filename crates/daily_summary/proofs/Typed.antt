-- The summary of rows that were measured: its bounds, and the types of its numbers.
use Rattle.std.proofs.Common.{◌≡◌, ◌⊎◌, inl, inr, ℕ, ℤ, pos, suc, ◌+◌, ◌*◌, ◌≤◌, ◌<◌, Bool, true, false, cond, List, [], ◌∷◌, length, get_or, Option, Some, None, sym, subst, arith}
use Rattle.std.specs.Prelude.{All, IfSome, unsigned_abs, int_lt, ◌*ℤ◌}
use Rattle.std.specs.Int.{w32}
use Rattle.std.proofs.lemmas.Bool.{cases_lt}
use Rattle.std.proofs.Math.ListN.{get_or-eq_default}
use Rattle.std.proofs.lemmas.Int.{fits_signed_from_abs}
use Rattle.std.proofs.lemmas.List.Elements.{All-head, All-tail}
use Rattle.std.proofs.lemmas.List.FromFn.{length-map-range_with_len}
use Rattle.std.proofs.lemmas.List.Sums.{sum_by-cons}
use Rattle.station_base.specs.CivilMinute.{IsCivilMinute}
use Rattle.station_base.specs.RowLine.{IsPrintable}
use Rattle.station_base.proofs.Periods.{period_bound}
use Rattle.station_base.specs.declared.row.Row.{Row}
use Rattle.daily_summary.specs.declared.field_sum.FieldSum.{FieldSum}
use Rattle.daily_summary.specs.Bounds.{IsSumOf, IsInBounds}
use Rattle.daily_summary.specs.Measured.{IsMeasured}
use Rattle.daily_summary.specs.Parts.{IsTyped, AreTyped}
use Rattle.daily_summary.specs.Readings.{Reading, field_value, with_reading, readings, least_reading, greatest, readings_total, weighted, time}
use Rattle.daily_summary.specs.Summary.{field_sum, summary_of}
use Rattle.daily_summary.proofs.Fields.{field_is, printable_at}
use Rattle.daily_summary.proofs.SumBounds.{abs_add, near, near_times, fits_below, least_period}
use Rattle.station_base.specs.Limits.{most_rows, farthest_value}
use Rattle.station_base.specs.Fields.{field_count}

-- a reading of a row that was measured
record IsRead (r : Reading) : Type 0 where
  pub value : unsigned_abs r.value ≤ farthest_value
  pub stamp : IsCivilMinute r.stamp
  pub shortest : 60 ≤ r.seconds
  pub longest : r.seconds ≤ 7200

abbrev AreReads : List Reading → Type 0
AreReads [] = Unit {0}
AreReads (r ∷ rs) = IsRead r × AreReads rs

-- the readings of rows that were measured are such, and not more than the rows
are_read : (field : ℕ) (rows : List Row) → All IsMeasured rows → AreReads (readings field rows)
are_read field [] all = tt
are_read field (row ∷ rows) all = by (field_value field row) (printable_at row.values field (All-head IsMeasured row rows all).values) (are_read field rows (All-tail IsMeasured row rows all))
  where
    by : (value : Option ℤ) → IsPrintable value → AreReads (readings field rows) → AreReads (with_reading value row (readings field rows))
    by None printable more = more
    by (Some v) printable more =
        let measured = All-head IsMeasured row rows all in
        let short = least_period row.interval measured.interval in let long = period_bound row.interval measured.interval in
        (record { value = near v printable; stamp = measured.stamp; shortest = omega arith; longest = omega arith }, more)

pub few_readings : (field : ℕ) (rows : List Row) → length (readings field rows) ≤ length rows
few_readings field [] = omega arith
few_readings field (row ∷ rows) = by (field_value field row) (few_readings field rows)
  where
    by : (value : Option ℤ) → length (readings field rows) ≤ length rows → length (with_reading value row (readings field rows)) ≤ suc (length rows)
    by None few = omega arith
    by (Some v) few = omega arith

-- an extreme is one of them
least_read : (r : Reading) (rs : List Reading) → IsRead r → AreReads rs → IsRead (least_reading r rs)
least_read r [] one all = one
least_read r (next ∷ rs) one all = by (int_lt (least_reading next rs).value r.value) (least_read next rs all.0 all.1)
  where
    by : (test : Bool) → IsRead (least_reading next rs) → IsRead (cond test (least_reading next rs) r)
    by true more = more
    by false more = one

greatest_read : (r : Reading) (rs : List Reading) → IsRead r → AreReads rs → IsRead (greatest r rs)
greatest_read r [] one all = one
greatest_read r (next ∷ rs) one all = by (int_lt r.value (greatest next rs).value) (greatest_read next rs all.0 all.1)
  where
    by : (test : Bool) → IsRead (greatest next rs) → IsRead (cond test (greatest next rs) r)
    by true more = more
    by false more = one

-- the sums
total_near : (rs : List Reading) → AreReads rs → unsigned_abs (readings_total rs) ≤ farthest_value * length rs
total_near [] all = omega arith
total_near (r ∷ rs) all = let sum = abs_add r.value (readings_total rs) farthest_value (farthest_value * length rs) all.0.value (total_near rs all.1) in omega (arith, sum)

time-cons : (r : Reading) (rs : List Reading) → time (r ∷ rs) ≡ r.seconds + time rs
time-cons r rs = sum_by-cons (λ (s : Reading). s.seconds) r rs

weighted_near : (rs : List Reading) → AreReads rs → unsigned_abs (weighted rs) ≤ farthest_value * time rs
weighted_near [] all = omega arith
weighted_near (r ∷ rs) all =
    let one = near_times r.value r.seconds all.0.value in
    let sum = abs_add (r.value *ℤ pos r.seconds) (weighted rs) (farthest_value * r.seconds) (farthest_value * time rs) one (weighted_near rs all.1) in
    let more = time-cons r rs in omega (arith, sum, more)

time_short : (rs : List Reading) → AreReads rs → 60 * length rs ≤ time rs
time_short [] all = omega arith
time_short (r ∷ rs) all = let more = time-cons r rs in let rest = time_short rs all.1 in let here = all.0.shortest in omega (arith, more, rest, here)

time_long : (rs : List Reading) → AreReads rs → time rs ≤ 7200 * length rs
time_long [] all = omega arith
time_long (r ∷ rs) all = let more = time-cons r rs in let rest = time_long rs all.1 in let here = all.0.longest in omega (arith, more, rest, here)

sum_bounds : (rows : ℕ) (rs : List Reading) → AreReads rs → length rs ≤ rows → IfSome (field_sum rs) (IsSumOf rows)
sum_bounds rows [] all few = tt
sum_bounds rows (r ∷ rs) all few = record {
  sum_is = record {
    some = omega arith;
    sum = total_near (r ∷ rs) all;
    shortest = time_short (r ∷ rs) all;
    longest = time_long (r ∷ rs) all;
    wsum = weighted_near (r ∷ rs) all;
  };
  count = few;
}

sum_typed : (rs : List Reading) → AreReads rs → length rs ≤ most_rows → IfSome (field_sum rs) IsTyped
sum_typed [] all few = tt
sum_typed (r ∷ rs) all few =
    let lo = least_read r rs all.0 all.1 in let hi = greatest_read r rs all.0 all.1 in
    let long = time_long (r ∷ rs) all in let sum = total_near (r ∷ rs) all in let wsum = weighted_near (r ∷ rs) all in
    record {
      least = fits_signed_from_abs w32 (least_reading r rs).value (let v = lo.value in omega (arith, v));
      least_at = lo.stamp;
      greatest = fits_signed_from_abs w32 (greatest r rs).value (let v = hi.value in omega (arith, v));
      greatest_at = hi.stamp;
      sum = fits_below (readings_total (r ∷ rs)) _ sum (omega (arith, few));
      count = omega (arith, few);
      wsum = fits_below (weighted (r ∷ rs)) _ wsum (omega (arith, few, long));
      sumtime = omega (arith, few, long);
    }

past_end : (rows : List Row) (field : ℕ) → field_count ≤ field → get_or (summary_of rows).fields field None ≡ None
unfolding summary_of
past_end rows field past = get_or-eq_default (summary_of rows).fields None {n = field} (omega (arith, length-map-range_with_len (λ f. field_sum (readings f rows)) 0 field_count))

pub bounds_of : (rows : List Row) → All IsMeasured rows → length rows ≤ most_rows → IsInBounds (summary_of rows)
unfolding summary_of
bounds_of rows all few = record { rows = few; fields = λ field. by field (cases_lt field field_count) }
  where
    by : (field : ℕ) → (field < field_count) ⊎ (field_count ≤ field) → IfSome (get_or (summary_of rows).fields field None) (IsSumOf (length rows))
    by field (inl h) = subst (λ (o : Option FieldSum). IfSome o (IsSumOf (length rows))) (sym (field_is rows field h)) (sum_bounds (length rows) (readings field rows) (are_read field rows all) (few_readings field rows))
    by field (inr h) = subst (λ (o : Option FieldSum). IfSome o (IsSumOf (length rows))) (sym (past_end rows field h)) tt

pub typed_of : (rows : List Row) → All IsMeasured rows → length rows ≤ most_rows → AreTyped (summary_of rows)
unfolding summary_of
typed_of rows all few = record { long = length-map-range_with_len (λ f. field_sum (readings f rows)) 0 field_count; each = λ field. by field (cases_lt field field_count) }
  where
    by : (field : ℕ) → (field < field_count) ⊎ (field_count ≤ field) → IfSome (get_or (summary_of rows).fields field None) IsTyped
    by field (inl h) =
        let fewer = few_readings field rows in
        subst (λ (o : Option FieldSum). IfSome o IsTyped) (sym (field_is rows field h)) (sum_typed (readings field rows) (are_read field rows all) (omega (arith, fewer, few)))
    by field (inr h) = subst (λ (o : Option FieldSum). IfSome o IsTyped) (sym (past_end rows field h)) tt
