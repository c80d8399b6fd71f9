-- The days that are left, one by one.
use Rattle.std.proofs.Common.{◌≡◌, ℕ, ℤ, ◌+◌, ◌++◌, Bool, true, false, List, ◌∷◌, drop, cond, Some, ap, ◌∙◌}
use Rattle.std.specs.Prelude.{codes, filter, flat_map, slice_get}
use Rattle.std.specs.declared.option.Option.{Option}
use Rattle.std.proofs.lemmas.List.{drop_more}
use Rattle.std.proofs.lemmas.Option.{slice_get_within, get_or_from_slice_get}
use Rattle.causes.specs.Written.{Leaves, WritesPart}
use Rattle.station_base.specs.DayText.{day_text}
use Rattle.station_base.specs.declared.row.Row.{Row}
use Rattle.daily_summary.specs.declared.summary.DaySummary.{DaySummary}
use Rattle.daily_summary.specs.Summary.{rows_of_day, summary_of}
use Rattle.packed_rows.specs.Days.{days_of}
use Rattle.weather_reports.specs.Line.{field_lines}
use Rattle.weather_reports.specs.Report.{day_lines}
use Rattle.weather_reports.specs.Reported.{text_of_lines}
use Rattle.weather_reports.proofs.Progress.{Comes, comes_on, comes_fails}

-- one in front
pub day_front : (days : List ℤ) (n : ℕ) (day : ℤ) → slice_get days n ≡ Some day → drop n days ≡ day ∷ drop (n + 1) days
day_front days n day is =
    drop_more days n day (slice_get_within days n day is)
    ∙ ap (λ (d : ℤ). d ∷ drop (n + 1) days) (get_or_from_slice_get days n day day is)

-- it is not among those asked for
pub day_passed : (p : ℤ → Bool) (days : List ℤ) (n : ℕ) (day : ℤ) → slice_get days n ≡ Some day → p day ≡ false
    → filter p (drop n days) ≡ filter p (drop (n + 1) days)
day_passed p days n day is out =
    ap (filter p) (day_front days n day is)
    ∙ ap (λ (b : Bool). cond b (day ∷ filter p (drop (n + 1) days)) (filter p (drop (n + 1) days))) out

-- it is among them
pub day_taken : (p : ℤ → Bool) (days : List ℤ) (n : ℕ) (day : ℤ) → slice_get days n ≡ Some day → p day ≡ true
    → filter p (drop n days) ≡ day ∷ filter p (drop (n + 1) days)
day_taken p days n day is among =
    ap (filter p) (day_front days n day is)
    ∙ ap (λ (b : Bool). cond b (day ∷ filter p (drop (n + 1) days)) (filter p (drop (n + 1) days))) among

module _ (rows : List Row) (p : ℤ → Bool) (n : ℕ) (day : ℤ) (at : slice_get (days_of rows) n ≡ Some day) (among : p day ≡ true)
    (head : List ℕ) (s : DaySummary) (head_is : head ≡ codes "day " ++ day_text day) (read : s ≡ summary_of (rows_of_day day rows))
    (lines : List (List ℕ)) (old now new : Option (List ℕ)) (pending : List ℕ)
    (before : Comes old now lines (flat_map (day_lines rows) (filter p (drop n (days_of rows)))) pending) where
  printed_lines : field_lines head s ≡ day_lines rows day
  printed_lines = ap (λ (s : DaySummary). field_lines head s) read ∙ ap (λ (head : List ℕ). field_lines head (summary_of (rows_of_day day rows))) head_is

  -- its lines were printed
  pub day_comes : (left : List ℕ) → Leaves now new (pending ++ text_of_lines (field_lines head s)) left
      → Comes old new lines (flat_map (day_lines rows) (filter p (drop (n + 1) (days_of rows)))) left
  day_comes left printed =
      comes_on old now new lines (day_lines rows day) (flat_map (day_lines rows) (filter p (drop (n + 1) (days_of rows)))) pending left
      (rw (day_taken p (days_of rows) n day at among) at before) (rw printed_lines at printed)

  -- the printing of its lines failed
  pub day_fails : WritesPart now new (pending ++ text_of_lines (field_lines head s)) → WritesPart old new (text_of_lines lines)
  day_fails printed =
      comes_fails old now new lines (day_lines rows day) (flat_map (day_lines rows) (filter p (drop (n + 1) (days_of rows)))) pending
      (rw (day_taken p (days_of rows) n day at among) at before) (rw printed_lines at printed)
