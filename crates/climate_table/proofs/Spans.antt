-- Spans that were read, day by day.
use Rattle.std.proofs.Common.{◌≡◌, ℕ, ◌+◌, ◌-◌, ◌<◌, ◌≤◌, ℤ, Bool, true, false, List, [], ◌∷◌, ◌++◌, Option, Some, None, ◌⊎◌, inl, inr, refl, sym, ap, ◌∙◌, subst, cond, arith}
use Rattle.std.specs.Prelude.{IfSome, slice_get, take, unsigned_abs}
use Rattle.std.proofs.Math.Logic.{∥∥₁_elim}
use Rattle.std.proofs.Props.{props}
use Rattle.station_base.specs.DayText.{IsDayNumber, day_text}
use Rattle.station_base.specs.declared.day.DayNumber.{DayNumber}
use Rattle.station_base.specs.declared.row.Row.{Row}
use Rattle.std.proofs.lemmas.List.{append-nil}
use Rattle.daily_summary.specs.Bounds.{IsInBounds}
use Rattle.daily_summary.specs.declared.summary.DaySummary.{DaySummary}
use Rattle.weather_book.specs.declared.book.Book.{Book}
use Rattle.weather_book.specs.Book.{BookStandsFor}
use Rattle.packed_rows.specs.Days.{Ascend, days_of}
use Rattle.weather_book.proofs.RowsOfBook.{some_rows}
use Rattle.weather_reports.specs.Months.{is_of_month}
use Rattle.weather_reports.proofs.AscendingDays.{later_number}
use Rattle.climate_table.specs.declared.climate_summary.ClimateSummary.{ClimateSummary}
use Rattle.climate_table.specs.declared.span.Span.{Span}
use Rattle.climate_table.specs.Climate.{IsOfDays, climate_of}
use Rattle.climate_table.specs.Degrees.{day_summary}
use Rattle.climate_table.specs.Line.{climate_line}
use Rattle.climate_table.specs.Spans.{SpanGrows, HasDaysAhead, HasDaysTo, SpanIsInOrder, IsSpan, ended_lines, is_begun, month_of, span_lines}
use Rattle.climate_table.specs.Table.{climate_lines, degree_lines, is_of_year}
use Rattle.climate_table.proofs.Months.{next_lines}
use Rattle.climate_table.proofs.YearSpan.{year_span}

-- its line is that of its days
pub span_line : (size : ℕ) (rows : List Row) (days : List ℤ) (span : Option Span) → IsSpan rows days span → span_lines size span ≡ climate_lines size rows days
span_line size rows [] None is = refl
span_line size rows [] (Some s) is = absurd is
span_line size rows (day ∷ days) None is = absurd is
span_line size rows (day ∷ days) (Some s) is =
    ap (λ (c : ClimateSummary). climate_line (take size (day_text s.first.0)) c ∷ []) is.1
    ∙ ap (λ (d : ℤ). climate_line (take size (day_text d)) (climate_of rows (day ∷ days)) ∷ []) is.0

-- whether a day is of the month that has begun
pub begun_month : (rows : List Row) (begun : List ℤ) (month : Option Span) (day : ℤ) → IsSpan rows begun month → is_begun month day ≡ is_of_month begun day
begun_month rows [] None day is = refl
begun_month rows [] (Some s) day is = absurd is
begun_month rows (first ∷ more) None day is = absurd is
begun_month rows (first ∷ more) (Some s) day is = ap (λ (d : ℤ). is_of_month (d ∷ more) day) is.0

-- the line of a month that is over
pub ended_month : (rows : List Row) (begun : List ℤ) (month : Option Span) (day : ℤ) → IsSpan rows begun month
    → ended_lines month day ≡ cond (is_of_month begun day) [] (climate_lines 7 rows begun)
ended_month rows begun month day is =
    ap (λ (b : Bool). cond b [] (span_lines 7 month)) (begun_month rows begun month day is)
    ∙ ap (λ (ls : List (List ℕ)). cond (is_of_month begun day) [] ls) (span_line 7 rows begun month is)

-- more days have room for more
pub more_days : (m n : ℕ) (s : ClimateSummary) → m ≤ n → IsOfDays m s → IsOfDays n s
more_days m n s le is = record {
  rows = omega (arith, is.rows, le);
  days = omega (arith, is.days, le);
  wet = omega (arith, is.wet, le);
  heating = omega (arith, is.heating, le);
  cooling = omega (arith, is.cooling, le);
}

-- what holds of a month holds of the month that goes on
pub of_month : (P : Span → Type 0) (month : Option Span) (day : ℤ) → IfSome month P → IfSome (month_of month day) P
of_month P month day all = by (is_begun month day)
  where
    by : (b : Bool) → IfSome (cond b month None) P
    by true = all
    by false = tt

-- a span in order whose first day is of this year
pub record IsInYear (year : ℕ) (s : Span) : Type 0 where
  pub order : SpanIsInOrder s
  pub of_year : is_of_year year s.first.0 ≡ true

pub in_order : (year : ℕ) (span : Option Span) → IfSome span (IsInYear year) → IfSome span SpanIsInOrder
in_order year None is = tt
in_order year (Some s) is = is.order

-- a day of the year was added
pub year_on : (year : ℕ) (old : Option Span) (day : DayNumber) (new : Span) → IsDayNumber day.0 → is_of_year year day.0 ≡ true
    → IfSome old (IsInYear year) → SpanGrows old day new → IsInYear year new
year_on year None day new range of_year is grows = record {
  order = record { first = rw (ap (λ (d : DayNumber). d.0) grows.first) range; sums = grows.sums };
  of_year = rw (ap (λ (d : DayNumber). d.0) grows.first) of_year;
}
year_on year (Some s) day new range of_year is grows = record {
  order = record { first = rw (ap (λ (d : DayNumber). d.0) grows.first) is.order.first; sums = grows.sums };
  of_year = rw (ap (λ (d : DayNumber). d.0) grows.first) is.of_year;
}

-- a day of the year is next, so the span has fewer than 366
pub few_yet : (year : ℕ) (span : Option Span) (day : ℤ) → IsDayNumber day → is_of_year year day ≡ true → IfSome span (IsInYear year)
    → IfSome span (HasDaysTo day) → IfSome span (λ s. IsOfDays 365 s.summary)
few_yet year None day range of_year is ahead = tt
few_yet year (Some s) day range of_year is ahead =
    more_days (unsigned_abs day - unsigned_abs s.first.0) 365 s.summary
    (omega (arith, year_span year s.first.0 day is.order.first range is.of_year of_year)) ahead.few

-- a book stands for some rows, so what each list of its rows shows of a span is so
pub days_to : (book : Book) (span : Option Span) (day : DayNumber) (n : ℕ)
    → ((rows : List Row) → BookStandsFor book rows → IfSome span (HasDaysAhead rows n))
    → ((rows : List Row) → BookStandsFor book rows → slice_get (days_of rows) n ≡ Some day.0) → IfSome span (HasDaysTo day.0)
days_to book None day n ahead at = tt
days_to book (Some s) day n ahead at = record {
  after = ∥∥₁_elim (some_rows book) (hlevel props) (λ p. (of_rows p.0 p.1).after);
  few = record {
    rows = ∥∥₁_elim (some_rows book) (hlevel props) (λ p. (of_rows p.0 p.1).few.rows);
    days = ∥∥₁_elim (some_rows book) (hlevel props) (λ p. (of_rows p.0 p.1).few.days);
    wet = ∥∥₁_elim (some_rows book) (hlevel props) (λ p. (of_rows p.0 p.1).few.wet);
    heating = ∥∥₁_elim (some_rows book) (hlevel props) (λ p. (of_rows p.0 p.1).few.heating);
    cooling = ∥∥₁_elim (some_rows book) (hlevel props) (λ p. (of_rows p.0 p.1).few.cooling);
  };
}
  where
    of_rows : (rows : List Row) → BookStandsFor book rows → HasDaysTo day.0 s
    of_rows rows stands = ahead rows stands n day.0 (omega arith) (at rows stands)

-- one day less is ahead
pub days_still : (rows : List Row) (n : ℕ) (span : Option Span) → IfSome span (HasDaysAhead rows n) → IfSome span (HasDaysAhead rows (n + 1))
days_still rows n None ahead = tt
days_still rows n (Some s) ahead = λ k day le at. ahead k day (omega (arith, le)) at

-- a day was added
pub days_on : (rows : List Row) (n : ℕ) (day : DayNumber) (old : Option Span) (new : Span) → Ascend None (days_of rows)
    → slice_get (days_of rows) n ≡ Some day.0 → IsDayNumber day.0 → SpanGrows old day new → IfSome old (HasDaysAhead rows n) → HasDaysAhead rows (n + 1) new
days_on rows n day old new up at range grows ahead k next le at_k =
    let less = later_number (days_of rows) up n k day.0 next at at_k range (omega (arith, le)) in
    by old grows ahead less
  where
    by : (span : Option Span) → SpanGrows span day new → IfSome span (HasDaysAhead rows n) → unsigned_abs day.0 < unsigned_abs next → HasDaysTo next new
    by None grows ahead less =
        let first = ap (λ (d : DayNumber). unsigned_abs d.0) grows.first in
        record {
          after = omega (arith, first, less);
          few = more_days 1 (unsigned_abs next - unsigned_abs new.first.0) new.summary (omega (arith, first, less)) (grows.few 0 tt);
        }
    by (Some s) grows ahead less =
        let first = ap (λ (d : DayNumber). unsigned_abs d.0) grows.first in
        let here = ahead n day.0 (omega arith) at in let so_far = unsigned_abs day.0 - unsigned_abs s.first.0 in
        record {
          after = omega (arith, first, less, here.after);
          few = more_days (so_far + 1) (unsigned_abs next - unsigned_abs new.first.0) new.summary (omega (arith, first, less, here.after))
              (grows.few so_far here.few);
        }

-- a day was added to the totals of a span, or to nothing
pub span_with : (rows : List Row) (days : List ℤ) (old : Option Span) (day : DayNumber) (grown : Span) (added : ClimateSummary) → IsSpan rows days old
    → (old ≡ Some grown) ⊎ ((old ≡ None) × (grown.first ≡ day) × (grown.summary ≡ climate_of rows []))
    → (grown.summary ≡ climate_of rows days → added ≡ climate_of rows (days ++ day.0 ∷ []))
    → IsSpan rows (days ++ day.0 ∷ []) (Some (record { first = grown.first; summary = added }))
span_with rows [] None day grown added is (inl some) add = absurd cc
span_with rows [] None day grown added is (inr none) add = (ap (λ (d : DayNumber). d.0) none.1, add none.2)
span_with rows [] (Some s) day grown added is way add = absurd is
span_with rows (first ∷ more) None day grown added is way add = absurd is
span_with rows (first ∷ more) (Some s) day grown added is (inl some) add =
    let same : s ≡ grown = cc in
    (ap (λ (g : Span). g.first.0) (sym same) ∙ is.0, add (ap (λ (g : Span). g.summary) (sym same) ∙ is.1))
span_with rows (first ∷ more) (Some s) day grown added is (inr none) add = absurd (let e = none.0 in cc)

-- and its numbers grew by those of a day
pub grows_with : (old : Option Span) (day : DayNumber) (grown : Span) (added : ClimateSummary)
    → (old ≡ Some grown) ⊎ ((old ≡ None) × (grown.first ≡ day) × IsOfDays 0 grown.summary)
    → IsInBounds added.sums → ((n : ℕ) → IsOfDays n grown.summary → IsOfDays (n + 1) added)
    → SpanGrows old day (record { first = grown.first; summary = added })
grows_with None day grown added (inl some) bounds few = absurd cc
grows_with None day grown added (inr none) bounds few = record {
  first = none.1;
  sums = bounds;
  few = λ n so. few n (more_days 0 n grown.summary (omega arith) none.2);
}
grows_with (Some s) day grown added (inl some) bounds few =
    let same : s ≡ grown = cc in
    record {
      first = ap (λ (g : Span). g.first) (sym same);
      sums = bounds;
      few = λ n so. few n (subst (λ (g : Span). IsOfDays n g.summary) same so);
    }
grows_with (Some s) day grown added (inr none) bounds few = absurd (let e = none.0 in cc)

-- the same where a span may have begun
pub years_on : (year : ℕ) (old : Option Span) (day : DayNumber) (new : Option Span) → IsDayNumber day.0 → is_of_year year day.0 ≡ true
    → IfSome old (IsInYear year) → IfSome new (SpanGrows old day) → IfSome new (IsInYear year)
years_on year old day None range of_year is grows = tt
years_on year old day (Some s) range of_year is grows = year_on year old day s range of_year is grows

pub all_days_on : (rows : List Row) (n : ℕ) (day : DayNumber) (old new : Option Span) → Ascend None (days_of rows)
    → slice_get (days_of rows) n ≡ Some day.0 → IsDayNumber day.0 → IfSome new (SpanGrows old day) → IfSome old (HasDaysAhead rows n)
    → IfSome new (HasDaysAhead rows (n + 1))
all_days_on rows n day old None up at range grows ahead = tt
all_days_on rows n day old (Some s) up at range grows ahead = days_on rows n day old s up at range grows ahead

-- the lines of a day
pub step_lines : (rows : List Row) (begun : List ℤ) (month : Option Span) (day : ℤ) (summary : DaySummary) → IsSpan rows begun month
    → summary ≡ day_summary rows day → ended_lines month day ++ degree_lines day summary ≡ next_lines rows begun day
step_lines rows begun month day summary is read =
    ap (λ (ls : List (List ℕ)). ls ++ degree_lines day summary) (ended_month rows begun month day is)
    ∙ ap (λ (s : DaySummary). cond (is_of_month begun day) [] (climate_lines 7 rows begun) ++ degree_lines day s) read

-- the lines at the end
pub last_lines : (rows : List Row) (begun days all : List ℤ) (month year : Option Span) → IsSpan rows begun month → IsSpan rows days year
    → days ++ [] ≡ all → span_lines 7 month ++ span_lines 4 year ≡ climate_lines 7 rows begun ++ climate_lines 4 rows all
last_lines rows begun days all month year is_month is_year whole =
    ap (λ (ls : List (List ℕ)). ls ++ span_lines 4 year) (span_line 7 rows begun month is_month)
    ∙ ap (λ (ls : List (List ℕ)). climate_lines 7 rows begun ++ ls) (span_line 4 rows days year is_year)
    ∙ ap (λ (ds : List ℤ). climate_lines 7 rows begun ++ climate_lines 4 rows ds) (sym (append-nil days) ∙ whole)
