-- How great the numbers of a summary are.
use Rattle.std.specs.Prelude.{ℕ, ◌*◌, ◌≤◌, unsigned_abs, IfSome, slice_index_or, None}
use Rattle.daily_summary.specs.declared.field_sum.FieldSum.{FieldSum}
use Rattle.daily_summary.specs.declared.summary.DaySummary.{DaySummary}
use Rattle.station_base.specs.Limits.{most_rows, farthest_value}

-- there is a value, each is within 2,000,000 either way, and each interval is from 1 minute to 120
pub record IsSum (s : FieldSum) : Type 0 where
  pub some : 1 ≤ s.count
  pub sum : unsigned_abs s.sum ≤ farthest_value * s.count
  pub shortest : 60 * s.count ≤ s.sumtime
  pub longest : s.sumtime ≤ 7200 * s.count
  pub wsum : unsigned_abs s.wsum ≤ farthest_value * s.sumtime

-- such a sum of at most so many rows
pub record IsSumOf (rows : ℕ) (s : FieldSum) : Type 0 where
  pub sum_is : IsSum s
  pub count : s.count ≤ rows

-- a summary of at most 1,048,576 rows whose numbers can be those of rows
pub record IsInBounds (s : DaySummary) : Type 0 where
  pub rows : s.rows ≤ most_rows
  pub fields : (field : ℕ) → IfSome (slice_index_or s.fields field None) (IsSumOf s.rows)
