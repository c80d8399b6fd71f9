-- A summary as it is kept while rows are added: the rows and their seconds are counted once, and a field counts those that it misses.
use Rattle.std.specs.Prelude.{ℕ, pos, negsuc, ◌≡◌, ◌+◌, ◌-◌, ◌*◌, ◌≤◌, nat_lt, unsigned_abs, All, IfSome, map, length, if◌then◌else◌, Some, None}
use Rattle.std.specs.declared.option.Option.{Option}
use Rattle.station_base.specs.Fields.{field_count}
use Rattle.station_base.specs.Limits.{most_rows, farthest_value}
use Rattle.daily_summary.specs.declared.field_sum.FieldSum.{FieldSum}
use Rattle.daily_summary.specs.declared.running.RunningField.{RunningField}
use Rattle.daily_summary.specs.declared.running.RunningSummary.{RunningSummary}
use Rattle.daily_summary.specs.declared.summary.DaySummary.{DaySummary}
use Rattle.daily_summary.specs.Bounds.{IsSumOf}
use Rattle.daily_summary.specs.Joined.{merged}

-- what the values of a field come to, if one of so many rows of so many seconds has one
abbrev pub running_sum : ℕ → ℕ → RunningField → Option FieldSum
running_sum rows seconds f =
    if nat_lt f.missing rows then Some (record {
      least = f.least;
      least_at = f.least_at;
      greatest = f.greatest;
      greatest_at = f.greatest_at;
      sum = f.sum;
      count = rows - f.missing;
      wsum = f.wsum;
      sumtime = seconds - f.missing_seconds;
    })
    else None

-- the summary of the rows that were added
unfoldable pub running_summary : RunningSummary → DaySummary
running_summary r = record { fields = map (running_sum r.rows r.seconds) r.fields; rows = r.rows }

-- none of so many rows of so many seconds has a value; the extremes stand at the ends of 32 bits, so any value takes their place
pub record IsUnmeasured (rows seconds : ℕ) (f : RunningField) : Type 0 where
  pub missing : f.missing ≡ rows
  pub missing_seconds : f.missing_seconds ≡ seconds
  pub least : f.least ≡ pos 2147483647
  pub greatest : f.greatest ≡ negsuc 2147483647
  pub sum : f.sum ≡ pos 0
  pub wsum : f.wsum ≡ pos 0

-- the field of so many rows of so many seconds
pub record IsRunning (rows seconds : ℕ) (f : RunningField) : Type 0 where
  pub missing : f.missing ≤ rows
  pub missing_seconds : f.missing_seconds ≤ seconds
  pub unmeasured : f.missing ≡ rows → IsUnmeasured rows seconds f
  pub sum : IfSome (running_sum rows seconds f) (IsSumOf rows)

-- no number of the field runs over by one row more
pub record FieldHasRoom (f : RunningField) : Type 0 where
  pub missing : f.missing ≤ most_rows
  pub missing_seconds : f.missing_seconds ≤ 7200 * most_rows
  pub sum : unsigned_abs f.sum ≤ farthest_value * most_rows
  pub wsum : unsigned_abs f.wsum ≤ farthest_value * (7200 * most_rows)

-- one row more, which weighs so many seconds, and what its value comes to, if it has one
pub record HasOneMore (seconds : ℕ) (value : Option FieldSum) (old new : RunningField) : Type 0 where
  pub sum : (rows total : ℕ) → IsRunning rows total old → running_sum (rows + 1) (total + seconds) new ≡ merged (running_sum rows total old) value
  pub running : (rows total : ℕ) → IsRunning rows total old → IsRunning (rows + 1) (total + seconds) new

-- each field is one of these rows, of which there are at most 1,048,576, and none weighs more than 120 minutes
pub record AreRunning (r : RunningSummary) : Type 0 where
  pub rows : r.rows ≤ most_rows
  pub seconds : r.seconds ≤ 7200 * r.rows
  pub long : length r.fields ≡ field_count
  pub fields : All (IsRunning r.rows r.seconds) r.fields
