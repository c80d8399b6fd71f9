-- A field while rows are added.
use Rattle.std.proofs.Common.{◌≡◌, ℕ, ℤ, pos, negsuc, ◌+◌, ◌-◌, ◌*◌, ◌≤◌, Bool, true, false, Option, Some, None, refl, ap, sym, subst, ◌∙◌, arith}
use Rattle.std.specs.Prelude.{◌+ℤ◌, ◌*ℤ◌, int_lt, nat_lt, FitsSigned, IfSome, unsigned_abs, if◌then◌else◌}
use Rattle.std.specs.Int.{w32, w64}
use Rattle.std.proofs.lemmas.Int.{ints, fits_signed_from_abs}
use Rattle.std.proofs.lemmas.Bool.Decides.{nat_tests}
use Rattle.station_base.specs.CivilMinute.{first_minute}
use Rattle.station_base.specs.Period.{IsPeriod}
use Rattle.station_base.specs.RowLine.{IsPrintable}
use Rattle.station_base.specs.declared.row.Row.{Row}
use Rattle.daily_summary.specs.declared.field_sum.FieldSum.{FieldSum}
use Rattle.daily_summary.specs.declared.running.RunningField.{RunningField}
use Rattle.daily_summary.specs.Bounds.{IsSumOf}
use Rattle.daily_summary.specs.Joined.{joined, merged, sum_of_row}
use Rattle.daily_summary.specs.Running.{HasOneMore, FieldHasRoom, IsRunning, IsUnmeasured, running_sum}
use Rattle.station_base.specs.Limits.{most_rows, farthest_value}
use Rattle.daily_summary.proofs.JoinedSums.{same_sum}
use Rattle.daily_summary.proofs.SumBounds.{abs_add, both_sums, fits_below, near, row_sum}

-- the field with one more value, of a row
abbrev with_value : Row → ℤ → RunningField → RunningField
with_value row value f = record {
  least = if int_lt value f.least then value else f.least;
  least_at = if int_lt value f.least then row.stamp else f.least_at;
  greatest = if int_lt f.greatest value then value else f.greatest;
  greatest_at = if int_lt f.greatest value then row.stamp else f.greatest_at;
  missing = f.missing;
  sum = f.sum +ℤ value;
  wsum = f.wsum +ℤ (value *ℤ pos (60 * row.interval));
  missing_seconds = f.missing_seconds;
}

-- the sum of a field with a value
told : ℕ → ℕ → RunningField → FieldSum
told rows seconds f = record { least = f.least; least_at = f.least_at; greatest = f.greatest; greatest_at = f.greatest_at; sum = f.sum; count = rows - f.missing; wsum = f.wsum; sumtime = seconds - f.missing_seconds }

told_if : (rows seconds : ℕ) (f : RunningField) → nat_lt f.missing rows ≡ true → running_sum rows seconds f ≡ Some (told rows seconds f)
unfolding told
told_if rows seconds f some = rw some refl

pub none_if : (rows seconds : ℕ) (f : RunningField) → nat_lt f.missing rows ≡ false → running_sum rows seconds f ≡ None
none_if rows seconds f none = rw none refl

-- one value more
more_told : (rows total : ℕ) (row : Row) (z : ℤ) (f : RunningField) → IsRunning rows total f → told (rows + 1) (total + 60 * row.interval) (with_value row z f) ≡ joined (told rows total f) (sum_of_row row z)
unfolding told
more_told rows total row z f is =
    same_sum (told (rows + 1) (total + 60 * row.interval) (with_value row z f)) (joined (told rows total f) (sum_of_row row z))
    refl refl refl refl refl (omega (arith, is.missing)) refl (omega (arith, is.missing_seconds))

-- the first value
first_told : (rows total : ℕ) (row : Row) (z : ℤ) (f : RunningField) → IsUnmeasured rows total f → IsPrintable (Some z) → told (rows + 1) (total + 60 * row.interval) (with_value row z f) ≡ sum_of_row row z
unfolding told
first_told rows total row z f is printable =
    let small = near z printable in
    let low : int_lt z (pos 2147483647) ≡ true = grind (arith, ints) in
    let high : int_lt (negsuc 2147483647) z ≡ true = grind (arith, ints) in
    same_sum (told (rows + 1) (total + 60 * row.interval) (with_value row z f)) (sum_of_row row z)
    (rw (is.least, low) refl) (rw (is.least, low) refl) (rw (is.greatest, high) refl) (rw (is.greatest, high) refl)
    (rw (is.sum) (omega (arith, ints))) (omega (arith, is.missing)) (rw (is.wsum) (omega (arith, ints))) (omega (arith, is.missing_seconds))

value_sum : (rows total : ℕ) (row : Row) (z : ℤ) (f : RunningField) → IsRunning rows total f → IsPrintable (Some z) →
    running_sum (rows + 1) (total + 60 * row.interval) (with_value row z f) ≡ merged (running_sum rows total f) (Some (sum_of_row row z))
value_sum rows total row z f is printable = by (nat_lt f.missing rows) refl
  where
    some : nat_lt f.missing (rows + 1) ≡ true
    some = let m = is.missing in grind (arith, nat_tests)

    by : (test : Bool) → nat_lt f.missing rows ≡ test → running_sum (rows + 1) (total + 60 * row.interval) (with_value row z f) ≡ merged (running_sum rows total f) (Some (sum_of_row row z))
    by true e =
        told_if (rows + 1) (total + 60 * row.interval) (with_value row z f) some ∙ ap Some (more_told rows total row z f is)
        ∙ ap (λ (o : Option FieldSum). merged o (Some (sum_of_row row z))) (sym (told_if rows total f e))
    by false e =
        let all : f.missing ≡ rows = let m = is.missing in grind (arith, nat_tests) in
        told_if (rows + 1) (total + 60 * row.interval) (with_value row z f) some ∙ ap Some (first_told rows total row z f (is.unmeasured all) printable)
        ∙ ap (λ (o : Option FieldSum). merged o (Some (sum_of_row row z))) (sym (none_if rows total f e))

merged_bound : (rows : ℕ) (o : Option FieldSum) (s : FieldSum) → IfSome o (IsSumOf rows) → IsSumOf 1 s → IfSome (merged o (Some s)) (IsSumOf (rows + 1))
merged_bound rows None s one two = record { sum_is = two.sum_is; count = omega (arith, two.count) }
merged_bound rows (Some a) s one two = record { sum_is = both_sums a s one.sum_is two.sum_is; count = omega (arith, one.count, two.count) }

value_running : (rows total : ℕ) (row : Row) (z : ℤ) (f : RunningField) → IsRunning rows total f → IsPrintable (Some z) → IsPeriod row.interval →
    IsRunning (rows + 1) (total + 60 * row.interval) (with_value row z f)
value_running rows total row z f is printable period = record {
  missing = omega (arith, is.missing);
  missing_seconds = omega (arith, is.missing_seconds);
  unmeasured = λ e. let m = is.missing in absurd (omega arith);
  sum = subst (λ (o : Option FieldSum). IfSome o (IsSumOf (rows + 1))) (sym (value_sum rows total row z f is printable))
      (merged_bound rows (running_sum rows total f) (sum_of_row row z) is.sum (row_sum row z printable period));
}

-- one value more, of a row
pub value_more : (row : Row) (z : ℤ) (f : RunningField) → IsPrintable (Some z) → IsPeriod row.interval → HasOneMore (60 * row.interval) (Some (sum_of_row row z)) f (with_value row z f)
value_more row z f printable period = record {
  sum = λ rows total is. value_sum rows total row z f is printable;
  running = λ rows total is. value_running rows total row z f is printable period;
}

-- a value that is added fits 32 bits; as numbers of 64 bits it fits, and so do the seconds of its row, their product, and the sums
pub record AreWithinWords (row : Row) (z : ℤ) (f : RunningField) : Type 0 where
  pub narrow : FitsSigned w32 z
  pub value : FitsSigned w64 z
  pub seconds : FitsSigned w64 (pos (60 * row.interval))
  pub product : FitsSigned w64 (z *ℤ pos (60 * row.interval))
  pub sum : FitsSigned w64 f.sum
  pub wsum : FitsSigned w64 f.wsum
  pub sum_more : FitsSigned w64 (f.sum +ℤ z)
  pub wsum_more : FitsSigned w64 (f.wsum +ℤ (z *ℤ pos (60 * row.interval)))

pub within_words : (row : Row) (z : ℤ) (f : RunningField) → IsPrintable (Some z) → IsPeriod row.interval → FieldHasRoom f → AreWithinWords row z f
within_words row z f printable period room =
    let one = (row_sum row z printable period).sum_is in let n = 60 * row.interval in
    record {
      narrow = fits_signed_from_abs w32 z (omega (arith, one.sum));
      value = fits_below z farthest_value one.sum (omega arith);
      seconds = fits_below (pos n) n (omega arith) (omega (arith, one.longest));
      product = fits_below (z *ℤ pos n) _ one.wsum (omega (arith, one.longest));
      sum = fits_below f.sum _ room.sum (omega arith);
      wsum = fits_below f.wsum _ room.wsum (omega arith);
      sum_more = fits_below (f.sum +ℤ z) _ (abs_add f.sum z _ _ room.sum one.sum) (omega arith);
      wsum_more = fits_below (f.wsum +ℤ (z *ℤ pos n)) _ (abs_add f.wsum (z *ℤ pos n) _ _ room.wsum one.wsum) (omega (arith, one.longest));
    }

near_told : (rows total : ℕ) (f : RunningField) → IsSumOf rows (told rows total f) → (unsigned_abs f.sum ≤ farthest_value * rows) × (unsigned_abs f.wsum ≤ farthest_value * total)
unfolding told
near_told rows total f s = (omega (arith, s.sum_is.sum), omega (arith, s.sum_is.wsum))

sum_near : (rows total : ℕ) (f : RunningField) → IsRunning rows total f → (unsigned_abs f.sum ≤ farthest_value * rows) × (unsigned_abs f.wsum ≤ farthest_value * total)
sum_near rows total f is = by (nat_lt f.missing rows) refl
  where
    by : (test : Bool) → nat_lt f.missing rows ≡ test → (unsigned_abs f.sum ≤ farthest_value * rows) × (unsigned_abs f.wsum ≤ farthest_value * total)
    by true e = near_told rows total f (subst (λ (o : Option FieldSum). IfSome o (IsSumOf rows)) (told_if rows total f e) is.sum)
    by false e =
        let all : f.missing ≡ rows = let m = is.missing in grind (arith, nat_tests) in
        let none = is.unmeasured all in
        (rw (none.sum) (omega arith), rw (none.wsum) (omega arith))

pub room_of : (rows total : ℕ) (f : RunningField) → IsRunning rows total f → rows ≤ most_rows → total ≤ 7200 * rows → FieldHasRoom f
room_of rows total f is few short =
    let near = sum_near rows total f is in
    record {
      missing = omega (arith, is.missing);
      missing_seconds = omega (arith, is.missing_seconds);
      sum = omega (arith, near.0);
      wsum = omega (arith, near.1);
    }

-- what stands past the last field
pub blank : RunningField
blank = record { least = pos 0; greatest = pos 0; least_at = first_minute; greatest_at = first_minute; missing = 0; sum = pos 0; wsum = pos 0; missing_seconds = 0 }
