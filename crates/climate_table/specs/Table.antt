-- The table of a year. (This is this project's own.)
use Rattle.std.specs.Prelude.{ℕ, ℤ, Bool, List, [], ◌∷◌, ◌++◌, filter, flat_map, take, bytes_eq, Some, None}
use Rattle.std.specs.declared.option.Option.{Option}
use Rattle.std.specs.Fmt.{decimal}
use Rattle.station_base.specs.DayText.{day_text}
use Rattle.station_base.specs.declared.row.Row.{Row}
use Rattle.daily_summary.specs.declared.field_sum.FieldSum.{FieldSum}
use Rattle.daily_summary.specs.declared.summary.DaySummary.{DaySummary}
use Rattle.packed_rows.specs.Days.{days_of}
use Rattle.weather_reports.specs.Months.{months_of}
use Rattle.climate_table.specs.Climate.{climate_of}
use Rattle.climate_table.specs.DegreeDays.{degrees_of}
use Rattle.climate_table.specs.Degrees.{day_summary, outside}
use Rattle.climate_table.specs.Line.{climate_line, degree_line}

-- the line of a day that has an outside temperature
abbrev pub line_of_degrees : ℤ → Option FieldSum → List (List ℕ)
line_of_degrees day None = []
line_of_degrees day (Some s) = degree_line day (degrees_of s) ∷ []

abbrev pub degree_lines : ℤ → DaySummary → List (List ℕ)
degree_lines day summary = line_of_degrees day (outside summary)

-- the totals of days, if there are any; so many bytes of the text of the first name them
abbrev pub climate_lines : ℕ → List Row → List ℤ → List (List ℕ)
climate_lines size rows [] = []
climate_lines size rows (first ∷ more) = climate_line (take size (day_text first)) (climate_of rows (first ∷ more)) ∷ []

-- the degree days of the days of a month, and then their totals
abbrev pub climate_month_lines : List Row → List ℤ → List (List ℕ)
climate_month_lines rows days =
    flat_map (λ day. degree_lines day (day_summary rows day)) days ++ climate_lines 7 rows days

-- the day is of this year
abbrev pub is_of_year : ℕ → ℤ → Bool
is_of_year year day = bytes_eq (take 4 (day_text day)) (decimal year)

-- the days of a year that have a row
abbrev pub days_of_year : ℕ → List Row → List ℤ
days_of_year year rows = filter (is_of_year year) (days_of rows)

-- the lines of each month of the year that has a row, and then the totals of its days
abbrev pub table_lines : ℕ → List Row → List (List ℕ)
table_lines year rows =
    flat_map (climate_month_lines rows) (months_of (days_of_year year rows))
    ++ climate_lines 4 rows (days_of_year year rows)
