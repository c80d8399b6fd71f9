-- A month of which some days were read, day by day.
use Rattle.std.proofs.Common.{◌≡◌, ℕ, ◌+◌, ◌≤◌, ℤ, Bool, true, false, List, [], ◌∷◌, ◌++◌, Option, Some, None, IfSome, refl, sym, ap, ◌∙◌, subst, arith, cond}
use Rattle.std.proofs.Math.Logic.{∥∥₁_elim}
use Rattle.std.proofs.Props.{props}
use Rattle.std.proofs.lemmas.List.{append-nil}
use Rattle.std.specs.Prelude.{codes, flat_map, slice_get}
use Rattle.station_base.specs.DayText.{IsDayNumber}
use Rattle.station_base.specs.declared.day.DayNumber.{DayNumber}
use Rattle.station_base.specs.declared.row.Row.{Row}
use Rattle.daily_summary.specs.declared.summary.DaySummary.{DaySummary}
use Rattle.daily_summary.specs.Summary.{rows_of_day, summary_of}
use Rattle.weather_book.specs.declared.book.Book.{Book}
use Rattle.weather_book.specs.Book.{BookStandsFor}
use Rattle.packed_rows.specs.Days.{Ascend, days_of}
use Rattle.weather_book.proofs.RowsOfBook.{some_rows}
use Rattle.weather_reports.specs.declared.month.Month.{Month}
use Rattle.weather_reports.specs.Begun.{MonthGrows, MonthIsBegun, MonthIsInOrder, HasFewRows, begun_lines, months_after}
use Rattle.weather_reports.specs.Line.{field_lines}
use Rattle.weather_reports.specs.Months.{is_of_month, month_text, months_from}
use Rattle.weather_reports.specs.Report.{month_lines, rows_of_days}
use Rattle.weather_reports.proofs.AscendingDays.{later_number}
use Rattle.weather_reports.proofs.MonthSpan.{month_span}
use Rattle.station_base.specs.Limits.{most_rows}

-- its lines are those of its days
of_days : (rows : List Row) (day : ℤ) (days : List ℤ) (m : Month) → MonthIsBegun rows (day ∷ days) (Some m)
    → month_lines rows (day ∷ days) ≡ begun_lines (Some m)
of_days rows day days m is =
    sym (ap (λ (s : DaySummary). field_lines (codes "month " ++ month_text m.first.0) s) is.1
    ∙ ap (λ (d : ℤ). field_lines (codes "month " ++ month_text d) (summary_of (rows_of_days rows (day ∷ days)))) is.0)

-- no days are left
pub month_ends : (rows : List Row) (begun : List ℤ) (month : Option Month) → MonthIsBegun rows begun month
    → flat_map (month_lines rows) (months_after begun []) ≡ begun_lines month
month_ends rows [] None is = refl
month_ends rows [] (Some m) is = absurd is
month_ends rows (day ∷ days) None is = absurd is
month_ends rows (day ∷ days) (Some m) is = append-nil (month_lines rows (day ∷ days)) ∙ of_days rows day days m is

-- a day of another month is next
pub month_apart : (rows : List Row) (begun : List ℤ) (month : Option Month) (next : ℤ) (ahead : List ℤ) → MonthIsBegun rows begun month
    → is_of_month begun next ≡ false
    → flat_map (month_lines rows) (months_after begun (next ∷ ahead))
    ≡ begun_lines month ++ flat_map (month_lines rows) (months_after (next ∷ []) ahead)
month_apart rows [] None next ahead is other = refl
month_apart rows [] (Some m) next ahead is other = absurd is
month_apart rows (day ∷ days) None next ahead is other = absurd is
month_apart rows (day ∷ days) (Some m) next ahead is other =
    ap (λ (b : Bool). flat_map (month_lines rows) (cond b (months_from (day ∷ days ++ next ∷ []) ahead) ((day ∷ days) ∷ months_from (next ∷ []) ahead))) other
    ∙ ap (λ (ls : List (List ℕ)). ls ++ flat_map (month_lines rows) (months_from (next ∷ []) ahead)) (of_days rows day days m is)

-- a day of this month is next
pub month_joined : (begun : List ℤ) (next : ℤ) (ahead : List ℤ) → is_of_month begun next ≡ true
    → months_after begun (next ∷ ahead) ≡ months_after (begun ++ next ∷ []) ahead
month_joined [] next ahead of = absurd cc
month_joined (day ∷ days) next ahead of =
    ap (λ (b : Bool). cond b (months_from (day ∷ days ++ next ∷ []) ahead) ((day ∷ days) ∷ months_from (next ∷ []) ahead)) of

-- a month that begins
pub month_begins : (rows : List Row) (day : DayNumber) (s : DaySummary) → s ≡ summary_of (rows_of_day day.0 rows)
    → MonthIsBegun rows (day.0 ∷ []) (Some (record { first = day; summary = s }))
month_begins rows day s is = (refl, is ∙ ap summary_of (sym (append-nil (rows_of_day day.0 rows))))

-- so many rows more can be counted
pub few_together : (book : Book) (month : Option Month) (day : DayNumber) (n more : ℕ) → IfSome month MonthIsInOrder → IsDayNumber day.0 → more ≤ 1441
    → ((rows : List Row) → BookStandsFor book rows → IfSome month (HasFewRows rows n))
    → ((rows : List Row) → BookStandsFor book rows → slice_get (days_of rows) n ≡ Some day.0)
    → IfSome month (λ m. month_text m.first.0 ≡ month_text day.0 → m.summary.rows + more ≤ most_rows)
few_together book None day n more order range small few at = tt
few_together book (Some m) day n more order range small few at = λ same.
    ∥∥₁_elim (some_rows book) (hlevel props) (λ p.
    let room = few p.0 p.1 n day.0 (omega arith) (at p.0 p.1) in let span = month_span m.first.0 day.0 order.first range same in
    omega (arith, room, span, small))

-- one day less is ahead
pub few_still : (rows : List Row) (n : ℕ) (month : Option Month) → IfSome month (HasFewRows rows n) → IfSome month (HasFewRows rows (n + 1))
few_still rows n None few = tt
few_still rows n (Some m) few = λ k day le at. few k day (omega (arith, le)) at

-- what holds of a month holds of the one that it is
some_few : (rows : List Row) (n : ℕ) (old : Option Month) (o : Month) → old ≡ Some o → IfSome old (HasFewRows rows n) → HasFewRows rows n o
some_few rows n old o is few = let P : Option Month → Type 0 = λ month. IfSome month (HasFewRows rows n) in subst P is few

-- a day was added
pub few_joined : (rows : List Row) (n more : ℕ) (day : ℤ) (old new : Option Month) → Ascend None (days_of rows) → slice_get (days_of rows) n ≡ Some day
    → IsDayNumber day → more ≤ 1441 → IfSome new (MonthGrows more old) → IfSome old (HasFewRows rows n) → IfSome new (HasFewRows rows (n + 1))
few_joined rows n more day old None up at range small grows few = tt
few_joined rows n more day old (Some m) up at range small grows few = λ k next le at_k.
    let room = some_few rows n old grows.before grows.was few n day (omega arith) at in
    let less = later_number (days_of rows) up n k day next at at_k range (omega (arith, le)) in
    let first = ap (λ (d : DayNumber). d.0) grows.first in
    rw first (omega (arith, room, less, small, grows.rows))

-- a month begins with a day
pub few_begun : (rows : List Row) (n : ℕ) (day : DayNumber) (s : DaySummary) → Ascend None (days_of rows) → slice_get (days_of rows) n ≡ Some day.0
    → IsDayNumber day.0 → s.rows ≤ 1441 → HasFewRows rows (n + 1) (record { first = day; summary = s })
few_begun rows n day s up at range small k next le at_k =
    let less = later_number (days_of rows) up n k day.0 next at at_k range (omega (arith, le)) in omega (arith, less, small)
