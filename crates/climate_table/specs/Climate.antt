-- The totals of a month or of a year. (These are this project's own.)
use Rattle.std.specs.Prelude.{ℕ, ℤ, ◌≤◌, ◌*◌, ◌^◌, List, [], ◌∷◌, length, map, filter, flat_map, Some, None}
use Rattle.std.specs.declared.option.Option.{Option}
use Rattle.station_base.specs.declared.row.Row.{Row}
use Rattle.daily_summary.specs.Summary.{summary_of}
use Rattle.daily_summary.specs.declared.field_sum.FieldSum.{FieldSum}
use Rattle.weather_reports.specs.Report.{rows_of_days}
use Rattle.climate_table.specs.declared.climate_summary.ClimateSummary.{ClimateSummary}
use Rattle.climate_table.specs.Degrees.{cooling, day_summary, heating, is_wet, outside, rain}
use Rattle.climate_table.specs.Total.{total_of}

-- what is there
abbrev pub some_of : Option FieldSum → List FieldSum
some_of None = []
some_of (Some s) = s ∷ []

-- the sums of the outside temperatures of each day that has one
abbrev pub outsides : List Row → List ℤ → List FieldSum
outsides rows days = flat_map (λ day. some_of (outside (day_summary rows day))) days

-- those of the days that have a click of rain
abbrev pub wet_days : List Row → List ℤ → List ℤ
wet_days rows days = filter (λ day. is_wet (rain (day_summary rows day))) days

-- the summary of their rows, the days with an outside temperature, those with rain, and the totals of degree days
abbrev pub climate_of : List Row → List ℤ → ClimateSummary
climate_of rows days = record {
  sums = summary_of (rows_of_days rows days);
  days = length (outsides rows days);
  wet = length (wet_days rows days);
  heating = total_of (map heating (outsides rows days));
  cooling = total_of (map cooling (outsides rows days));
}

-- Its numbers are within those of so many days.
pub record IsOfDays (n : ℕ) (s : ClimateSummary) : Type 0 where
  pub rows : s.sums.rows ≤ 1441 * n
  pub days : s.days ≤ n
  pub wet : s.wet ≤ n
  pub heating : s.heating ≤ n * (100 * 2 ^ 48)
  pub cooling : s.cooling ≤ n * (100 * 2 ^ 48)
