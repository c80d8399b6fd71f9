-- What the lines of days tell, held against the rows (after WeeWX's daily summaries).
use Rattle.std.specs.Prelude.{ℕ, ℤ, ◌≡◌, ◌<◌, ◌⊎◌, int_lt, true, All, IsSome, List, length, map, codes, ◌++◌}
use Rattle.std.specs.List.{AllPairs, Contains}
use Rattle.station_base.specs.DayText.{day_text}
use Rattle.station_base.specs.declared.row.Row.{Row}
use Rattle.daily_summary.specs.declared.field_sum.FieldSum.{FieldSum}
use Rattle.daily_summary.specs.Extremes.{IsGreatestAt, IsLeastAt}
use Rattle.daily_summary.specs.Readings.{readings, time, readings_total, field_value, weighted}
use Rattle.daily_summary.specs.Summary.{rows_of_day}
use Rattle.packed_rows.specs.Days.{day_of_row}
use Rattle.weather_reports.specs.Line.{sum_line}
use Rattle.weather_reports.specs.Reported.{text_of_lines}
use Rattle.station_base.specs.Fields.{field_count}

-- A line: the day, the field by its number, and what is told of it.
pub record DayLine : Type 0 where
  pub day : ℤ
  pub field : ℕ
  pub told : FieldSum

-- the text of a line
abbrev pub printed_line : DayLine → List ℕ
printed_line line = sum_line (codes "day " ++ day_text line.day) line.field line.told

-- the day of the one comes first, or the day is the same and its field comes first
abbrev pub ComesBefore : DayLine → DayLine → Type 0
ComesBefore one other = (int_lt one.day other.day ≡ true) ⊎ ((one.day ≡ other.day) × (one.field < other.field))

-- What a line tells is so of the values that the rows of its day have of its field: the least one and the first stamp
-- that has it, the greatest likewise, their sum, how many they are, the sum of each times its seconds, and the seconds.
pub record IsRecomputed (rows : List Row) (line : DayLine) : Type 0 where
  pub least : IsLeastAt line.field (rows_of_day line.day rows) line.told.least line.told.least_at
  pub greatest : IsGreatestAt line.field (rows_of_day line.day rows) line.told.greatest line.told.greatest_at
  pub sum : line.told.sum ≡ readings_total (readings line.field (rows_of_day line.day rows))
  pub count : line.told.count ≡ length (readings line.field (rows_of_day line.day rows))
  pub wsum : line.told.wsum ≡ weighted (readings line.field (rows_of_day line.day rows))
  pub sumtime : line.told.sumtime ≡ time (readings line.field (rows_of_day line.day rows))

-- one of the lines is of this day and this field
abbrev pub FieldIsTold : List DayLine → ℤ → ℕ → Type 0
FieldIsTold lines day field = (line : DayLine) × Contains lines line × (line.day ≡ day) × (line.field ≡ field)

-- The text is that of lines in order, so that no day and field has two; each tells what its rows come to, so that no
-- other day and field has one; and each value that a row has of one of the 37 fields is told of.
pub record AreDayLines (rows : List Row) (text : List ℕ) : Type 0 where
  pub lines : List DayLine
  pub text_is : text ≡ text_of_lines (map printed_line lines)
  pub in_order : AllPairs ComesBefore lines
  pub recomputed : All (IsRecomputed rows) lines
  pub all : (row : Row) (field : ℕ) → Contains rows row → field < field_count → IsSome (field_value field row)
      → FieldIsTold lines (day_of_row row) field
