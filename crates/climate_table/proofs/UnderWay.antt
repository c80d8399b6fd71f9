-- The table of a year of which some days were read: what was printed of it, and what is ahead.
use Rattle.std.proofs.Common.{◌≡◌, ◌≤◌, ◌+◌, ◌∙◌, ℕ, ℤ, List, [], ◌∷◌, ◌++◌, Some, None, true, false, length, drop, refl, sym, ap, subst, append_assoc}
use Rattle.std.proofs.lemmas.List.{append-nil, drop_all}
use Rattle.std.specs.Prelude.{filter, slice_get}
use Rattle.std.specs.declared.option.Option.{Option}
use Rattle.causes.specs.Written.{Leaves, WritesPart}
use Rattle.station_base.specs.declared.row.Row.{Row}
use Rattle.daily_summary.specs.declared.summary.DaySummary.{DaySummary}
use Rattle.packed_rows.specs.Days.{days_of}
use Rattle.weather_reports.specs.Reported.{text_of_lines}
use Rattle.weather_reports.proofs.NextDay.{day_passed, day_taken}
use Rattle.weather_reports.proofs.Progress.{Comes, comes_fails, comes_none, comes_on}
use Rattle.climate_table.specs.Degrees.{day_summary}
use Rattle.climate_table.specs.Spans.{IsSpan, ended_lines, month_with, span_lines}
use Rattle.climate_table.specs.Table.{climate_lines, days_of_year, degree_lines, is_of_year, table_lines}
use Rattle.climate_table.specs.declared.span.Span.{Span}
use Rattle.climate_table.specs.declared.table.Table.{Table}
use Rattle.climate_table.proofs.Months.{day_ahead, lines_after, months_start, next_lines}
use Rattle.climate_table.proofs.Spans.{last_lines, step_lines}

-- The days up to a number were read, which are those of the table, and the lines of the others are ahead.
pub record IsUnderWay (year : ℕ) (rows : List Row) (n : ℕ) (table : Table) (old now : Option (List ℕ)) (pending : List ℕ) : Type 0 where
  pub begun : List ℤ
  pub days : List ℤ
  pub of_month : IsSpan rows begun table.month
  pub of_year : IsSpan rows days table.year
  pub all : days ++ filter (is_of_year year) (drop n (days_of rows)) ≡ days_of_year year rows
  pub comes : Comes old now (table_lines year rows)
      (lines_after rows begun (filter (is_of_year year) (drop n (days_of rows))) ++ climate_lines 4 rows (days_of_year year rows)) pending

module _ (year : ℕ) (rows : List Row) where
  -- at the start all is ahead
  pub table_starts : (table : Table) (known : Option (List ℕ)) → table.month ≡ None → table.year ≡ None → IsUnderWay year rows 0 table known known []
  table_starts table known no_month no_year =
      let days = days_of_year year rows in let lines = table_lines year rows in
      let P : List (List ℕ) → Type 0 = λ ahead. Comes known known lines ahead [] in
      record {
        begun = [];
        days = [];
        of_month = subst (λ (span : Option Span). IsSpan rows [] span) (sym no_month) tt;
        of_year = subst (λ (span : Option Span). IsSpan rows [] span) (sym no_year) tt;
        all = refl;
        comes = subst P (ap (λ (ls : List (List ℕ)). ls ++ climate_lines 4 rows days) (months_start rows days)) (comes_none known lines);
      }

  module _ (n : ℕ) (table : Table) (old now : Option (List ℕ)) (pending : List ℕ) (at : IsUnderWay year rows n table old now pending) where
    -- the next day is of another year
    pub table_passes : (day : ℤ) → slice_get (days_of rows) n ≡ Some day → is_of_year year day ≡ false → IsUnderWay year rows (n + 1) table old now pending
    table_passes day here other =
        let passed = day_passed (is_of_year year) (days_of rows) n day here other in
        record { begun = at.begun; days = at.days; of_month = at.of_month; of_year = at.of_year; all = rw passed at at.all; comes = rw passed at at.comes }

    module _ (day : ℤ) (here : slice_get (days_of rows) n ≡ Some day) (taken : is_of_year year day ≡ true) (summary : DaySummary)
        (read : summary ≡ day_summary rows day) (new : Option (List ℕ)) where
      -- the lines of the next day were printed
      pub table_comes : (grown : Table) (left : List ℕ) → IsSpan rows (month_with at.begun day) grown.month → IsSpan rows (at.days ++ day ∷ []) grown.year
          → Leaves now new (pending ++ text_of_lines (ended_lines table.month day ++ degree_lines day summary)) left
          → IsUnderWay year rows (n + 1) grown old new left
      table_comes grown left of_month of_year printed =
          let ahead = filter (is_of_year year) (drop (n + 1) (days_of rows)) in let last = climate_lines 4 rows (days_of_year year rows) in
          let next = day_taken (is_of_year year) (days_of rows) n day here taken in
          let comes = rw (day_ahead rows at.begun day ahead last) at (rw next at at.comes) in
          let lines = step_lines rows at.begun table.month day summary at.of_month read in
          record {
            begun = month_with at.begun day;
            days = at.days ++ day ∷ [];
            of_month = of_month;
            of_year = of_year;
            all = append_assoc at.days (day ∷ []) ahead ∙ (rw next at at.all);
            comes = comes_on old now new (table_lines year rows) (next_lines rows at.begun day) (lines_after rows (month_with at.begun day) ahead ++ last) pending left comes
                (rw lines at printed);
          }

      -- the printing of these lines failed
      pub table_fails : WritesPart now new (pending ++ text_of_lines (ended_lines table.month day ++ degree_lines day summary))
          → WritesPart old new (text_of_lines (table_lines year rows))
      table_fails printed =
          let ahead = filter (is_of_year year) (drop (n + 1) (days_of rows)) in let last = climate_lines 4 rows (days_of_year year rows) in
          let next = day_taken (is_of_year year) (days_of rows) n day here taken in
          let comes = rw (day_ahead rows at.begun day ahead last) at (rw next at at.comes) in
          let lines = step_lines rows at.begun table.month day summary at.of_month read in
          comes_fails old now new (table_lines year rows) (next_lines rows at.begun day) (lines_after rows (month_with at.begun day) ahead ++ last) pending comes
          (rw lines at printed)

    module _ (over : length (days_of rows) ≤ n) (new : Option (List ℕ)) where
      -- the lines of the last month and of the year were printed
      pub table_ends : (left : List ℕ) → Leaves now new (pending ++ text_of_lines (span_lines 7 table.month ++ span_lines 4 table.year)) left
          → Comes old new (table_lines year rows) [] left
      table_ends left printed =
          let none = drop_all n (days_of rows) over in let days = days_of_year year rows in
          let both = climate_lines 7 rows at.begun ++ climate_lines 4 rows days in
          let comes = rw (sym (append-nil both)) at (rw none at at.comes) in
          let lines = last_lines rows at.begun at.days days table.month table.year at.of_month at.of_year (rw none at at.all) in
          comes_on old now new (table_lines year rows) both [] pending left comes (rw lines at printed)

      -- the printing of these lines failed
      pub table_end_fails : WritesPart now new (pending ++ text_of_lines (span_lines 7 table.month ++ span_lines 4 table.year))
          → WritesPart old new (text_of_lines (table_lines year rows))
      table_end_fails printed =
          let none = drop_all n (days_of rows) over in let days = days_of_year year rows in
          let both = climate_lines 7 rows at.begun ++ climate_lines 4 rows days in
          let comes = rw (sym (append-nil both)) at (rw none at at.comes) in
          let lines = last_lines rows at.begun at.days days table.month table.year at.of_month at.of_year (rw none at at.all) in
          comes_fails old now new (table_lines year rows) both [] pending comes (rw lines at printed)
