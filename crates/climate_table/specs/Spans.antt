-- The days of a month or of a year, as far as they were read.
use Rattle.std.specs.Prelude.{ℕ, ℤ, ◌≡◌, ◌+◌, ◌-◌, ◌≤◌, unsigned_abs, Bool, false, if◌then◌else◌, List, [], ◌∷◌, ◌++◌}
use Rattle.std.specs.Prelude.{take, bytes_eq, IfSome, Some, None, slice_get}
use Rattle.std.specs.declared.option.Option.{Option}
use Rattle.station_base.specs.DayText.{IsDayNumber, day_text}
use Rattle.station_base.specs.declared.day.DayNumber.{DayNumber}
use Rattle.station_base.specs.declared.row.Row.{Row}
use Rattle.daily_summary.specs.Bounds.{IsInBounds}
use Rattle.packed_rows.specs.Days.{days_of}
use Rattle.weather_reports.specs.Months.{is_of_month, month_text}
use Rattle.climate_table.specs.declared.span.Span.{Span}
use Rattle.climate_table.specs.Climate.{IsOfDays, climate_of}
use Rattle.climate_table.specs.Line.{climate_line}

-- these days of it were read
abbrev pub IsSpan : List Row → List ℤ → Option Span → Type 0
IsSpan rows [] None = Unit {0}
IsSpan rows [] (Some span) = ⊥
IsSpan rows (day ∷ days) None = ⊥
IsSpan rows (day ∷ days) (Some span) = (span.first.0 ≡ day) × (span.summary ≡ climate_of rows (day ∷ days))

-- its line, if it has begun
abbrev pub span_lines : ℕ → Option Span → List (List ℕ)
span_lines size None = []
span_lines size (Some span) = climate_line (take size (day_text span.first.0)) span.summary ∷ []

-- its first day, where the next one is this
abbrev pub first_day : Option Span → DayNumber → DayNumber
first_day None day = day
first_day (Some span) day = span.first

-- the day is of the month that has begun
abbrev pub is_begun : Option Span → ℤ → Bool
is_begun None day = false
is_begun (Some span) day = bytes_eq (month_text span.first.0) (month_text day)

-- that month, where the day is of it
abbrev pub month_of : Option Span → ℤ → Option Span
month_of month day = if is_begun month day then month else None

-- the days of the month that has begun and this one, or this one alone, where it is of another month
abbrev pub month_with : List ℤ → ℤ → List ℤ
month_with begun day = if is_of_month begun day then begun ++ day ∷ [] else day ∷ []

-- the line of the month that is over, where the day is of another one
abbrev pub ended_lines : Option Span → ℤ → List (List ℕ)
ended_lines month day = if is_begun month day then [] else span_lines 7 month

-- its first day is one of a stamp, and its numbers are within bounds
pub record SpanIsInOrder (span : Span) : Type 0 where
  pub first : IsDayNumber span.first.0
  pub sums : IsInBounds span.summary.sums

-- A day was added to a span, or began it.
pub record SpanGrows (old : Option Span) (day : DayNumber) (new : Span) : Type 0 where
  pub first : new.first ≡ first_day old day
  pub sums : IsInBounds new.summary.sums
  pub few : (n : ℕ) → IfSome old (λ s. IsOfDays n s.summary) → IsOfDays (n + 1) new.summary

-- the day comes after the first of the span, whose numbers are within those of the days in between
pub record HasDaysTo (day : ℤ) (span : Span) : Type 0 where
  pub after : unsigned_abs span.first.0 ≤ unsigned_abs day
  pub few : IsOfDays (unsigned_abs day - unsigned_abs span.first.0) span.summary

-- so it is for each day of the rows from a number on
abbrev pub HasDaysAhead : List Row → ℕ → Span → Type 0
HasDaysAhead rows n span = (k : ℕ) (day : ℤ) → n ≤ k → slice_get (days_of rows) k ≡ Some day → HasDaysTo day span
