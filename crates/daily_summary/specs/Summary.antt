-- What rows come to in each field (after the parts of WeeWX's daily summaries).
use Rattle.std.specs.Prelude.{Bool, List, [], ◌∷◌, length, map, filter, Some, None}
use Rattle.std.specs.declared.option.Option.{Option}
use Rattle.std.specs.Int.{int_div_euclid}
use Rattle.std.specs.List.{range_with_len}
use Rattle.std.specs.Prelude.{ℤ, pos, ◌*ℤ◌}
use Rattle.std.specs.Ordering.{int_eq}
use Rattle.station_base.specs.CivilMinute.{archive_day_of}
use Rattle.station_base.specs.declared.row.Row.{Row}
use Rattle.daily_summary.specs.declared.field_sum.FieldSum.{FieldSum}
use Rattle.daily_summary.specs.declared.summary.DaySummary.{DaySummary}
use Rattle.daily_summary.specs.Readings.{Reading, readings, least_reading, greatest, readings_total, weighted, time}
use Rattle.station_base.specs.Fields.{field_count}

-- what readings come to, if there are any
abbrev pub field_sum : List Reading → Option FieldSum
field_sum [] = None
field_sum (first ∷ more) = Some (record {
  least = (least_reading first more).value;
  least_at = (least_reading first more).stamp;
  greatest = (greatest first more).value;
  greatest_at = (greatest first more).stamp;
  sum = readings_total (first ∷ more);
  count = length (first ∷ more);
  wsum = weighted (first ∷ more);
  sumtime = time (first ∷ more);
})

-- what rows come to in each of the 37 fields, and how many they are
unfoldable pub summary_of : List Row → DaySummary
summary_of rows = record {
  fields = map (λ field. field_sum (readings field rows)) (range_with_len 0 field_count);
  rows = length rows;
}

-- the row is of this archive day, which begins a minute after midnight
abbrev pub is_of_day : ℤ → Row → Bool
is_of_day day row = int_eq (pos (archive_day_of row.stamp)) day

-- the rows of a day, in order
abbrev pub rows_of_day : ℤ → List Row → List Row
rows_of_day day rows = filter (is_of_day day) rows

-- the weighted mean in tenths, rounded towards the lesser number
abbrev pub tenths : FieldSum → ℤ
tenths s = int_div_euclid (pos 10 *ℤ s.wsum) (pos s.sumtime)
