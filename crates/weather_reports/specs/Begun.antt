-- A month of which some days were read.
use Rattle.std.specs.Prelude.{ℕ, ℤ, ◌≡◌, ◌+◌, ◌*◌, ◌≤◌, unsigned_abs, List, [], ◌∷◌, ◌++◌, Some, None, codes, slice_get}
use Rattle.std.specs.declared.option.Option.{Option}
use Rattle.station_base.specs.DayText.{IsDayNumber}
use Rattle.station_base.specs.declared.row.Row.{Row}
use Rattle.daily_summary.specs.Bounds.{IsInBounds}
use Rattle.daily_summary.specs.Summary.{summary_of}
use Rattle.packed_rows.specs.Days.{days_of}
use Rattle.weather_reports.specs.declared.month.Month.{Month}
use Rattle.weather_reports.specs.Line.{field_lines}
use Rattle.weather_reports.specs.Months.{month_text, months_from, months_of}
use Rattle.weather_reports.specs.Report.{rows_of_days}

-- its lines
abbrev pub begun_lines : Option Month → List (List ℕ)
begun_lines None = []
begun_lines (Some month) = field_lines (codes "month " ++ month_text month.first.0) month.summary

-- its first day is one of a stamp, and its numbers are within bounds
pub record MonthIsInOrder (month : Month) : Type 0 where
  pub first : IsDayNumber month.first.0
  pub summary : IsInBounds month.summary

-- these days of it were read
abbrev pub MonthIsBegun : List Row → List ℤ → Option Month → Type 0
MonthIsBegun rows [] None = Unit {0}
MonthIsBegun rows [] (Some month) = ⊥
MonthIsBegun rows (day ∷ days) None = ⊥
MonthIsBegun rows (day ∷ days) (Some month) =
    (month.first.0 ≡ day) × (month.summary ≡ summary_of (rows_of_days rows (day ∷ days)))

-- the days of each month, where the first month has begun with some, or with none
abbrev pub months_after : List ℤ → List ℤ → List (List ℤ)
months_after [] days = months_of days
months_after (first ∷ begun) days = months_from (first ∷ begun) days

-- It has no more rows than the days have room for from its first to each day that is ahead.
abbrev pub HasFewRows : List Row → ℕ → Month → Type 0
HasFewRows rows n month =
    (k : ℕ) (day : ℤ) → n ≤ k → slice_get (days_of rows) k ≡ Some day
    → month.summary.rows + 1441 * unsigned_abs month.first.0 ≤ 1441 * unsigned_abs day

-- A day of so many rows was added to a month that had begun.
pub record MonthGrows (more : ℕ) (old : Option Month) (month : Month) : Type 0 where
  pub before : Month
  pub was : old ≡ Some before
  pub first : month.first ≡ before.first
  pub rows : month.summary.rows ≡ before.summary.rows + more
