-- The lines of the reports over the rows of an archive, some of them for the days from a first to a last.
-- (These are this project's texts.)
use Rattle.std.specs.Prelude.{ℕ, ℤ, Bool, int_le, ◌&&◌, List, [], ◌∷◌, ◌++◌, codes, map, drop, filter, flat_map}
use Rattle.station_base.specs.DayText.{day_text}
use Rattle.station_base.specs.RowLine.{row_line}
use Rattle.station_base.specs.declared.day.DayNumber.{DayNumber}
use Rattle.station_base.specs.declared.row.Row.{Row}
use Rattle.daily_summary.specs.Summary.{rows_of_day, summary_of}
use Rattle.packed_rows.specs.Days.{days_of, is_within}
use Rattle.weather_reports.specs.Line.{field_lines}
use Rattle.weather_reports.specs.Months.{month_text, months_of}

-- the line of each row of these days
abbrev pub listing_lines : DayNumber → DayNumber → List Row → List (List ℕ)
listing_lines first last rows = map row_line (filter (is_within first last) rows)

-- the line of each row from a number on
abbrev pub later_lines : ℕ → List Row → List (List ℕ)
later_lines from rows = map row_line (drop from rows)

-- the day is one from the first to the last
abbrev pub is_among : DayNumber → DayNumber → ℤ → Bool
is_among first last day = int_le first.0 day && int_le day last.0

-- those of these days that have a row
abbrev pub days_among : DayNumber → DayNumber → List Row → List ℤ
days_among first last rows = filter (is_among first last) (days_of rows)

-- `day YYYY-MM-DD` and what a field's values come to, for each field of the day that has a value
abbrev pub day_lines : List Row → ℤ → List (List ℕ)
day_lines rows day = field_lines (codes "day " ++ day_text day) (summary_of (rows_of_day day rows))

-- the lines of each of these days
abbrev pub day_table_lines : DayNumber → DayNumber → List Row → List (List ℕ)
day_table_lines first last rows = flat_map (day_lines rows) (days_among first last rows)

-- the lines of each day that has a row
abbrev pub all_day_lines : List Row → List (List ℕ)
all_day_lines rows = flat_map (day_lines rows) (days_of rows)

-- the rows of days, day by day
abbrev pub rows_of_days : List Row → List ℤ → List Row
rows_of_days rows days = flat_map (λ day. rows_of_day day rows) days

-- the text of the month of days
abbrev pub month_head : List ℤ → List ℕ
month_head [] = []
month_head (first ∷ more) = codes "month " ++ month_text first

-- `month YYYY-MM` and what a field's values come to over the days of a month that have a row
abbrev pub month_lines : List Row → List ℤ → List (List ℕ)
month_lines rows days = field_lines (month_head days) (summary_of (rows_of_days rows days))

-- the lines of each month of these days, over those of its days that are among them
abbrev pub month_table_lines : DayNumber → DayNumber → List Row → List (List ℕ)
month_table_lines first last rows = flat_map (month_lines rows) (months_of (days_among first last rows))
