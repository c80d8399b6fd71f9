-- The lines of months, day by day.
use Rattle.std.proofs.Common.{◌≡◌, ℕ, ℤ, Bool, true, false, List, [], ◌∷◌, ◌++◌, refl, sym, ap, ◌∙◌, cond, append_assoc}
use Rattle.std.specs.Prelude.{flat_map}
use Rattle.std.proofs.lemmas.List.{append-nil}
use Rattle.std.proofs.lemmas.Grind.{flat_map-append}
use Rattle.station_base.specs.declared.row.Row.{Row}
use Rattle.weather_reports.specs.Months.{is_of_month, months_from, months_of}
use Rattle.climate_table.specs.Degrees.{day_summary}
use Rattle.climate_table.specs.Spans.{month_with}
use Rattle.climate_table.specs.Table.{climate_lines, degree_lines, climate_month_lines}

-- the line of the month that is over, where the day is of another one, and the degree days of the day
abbrev pub next_lines : List Row → List ℤ → ℤ → List (List ℕ)
next_lines rows begun day =
    cond (is_of_month begun day) [] (climate_lines 7 rows begun) ++ degree_lines day (day_summary rows day)

-- the lines that are ahead, where some days of a month were read
abbrev pub lines_after : List Row → List ℤ → List ℤ → List (List ℕ)
lines_after rows begun [] = climate_lines 7 rows begun
lines_after rows begun (day ∷ days) = next_lines rows begun day ++ lines_after rows (month_with begun day) days

-- the degree days of days
abbrev degrees : List Row → List ℤ → List (List ℕ)
degrees rows days = flat_map (λ day. degree_lines day (day_summary rows day)) days

degrees_join : (rows : List Row) (begun : List ℤ) (day : ℤ) → degrees rows (begun ++ day ∷ []) ≡ degrees rows begun ++ degree_lines day (day_summary rows day)
degrees_join rows begun day =
    flat_map-append (λ (d : ℤ). degree_lines d (day_summary rows d)) begun (day ∷ [])
    ∙ ap (λ (ls : List (List ℕ)). degrees rows begun ++ ls) (append-nil (degree_lines day (day_summary rows day)))

-- a day more, by whether it is of the month
month_step : (rows : List Row) (begun : List ℤ) (day : ℤ) (days : List ℤ) (same : Bool)
    → flat_map (climate_month_lines rows) (months_from (begun ++ day ∷ []) days) ≡ degrees rows (begun ++ day ∷ []) ++ lines_after rows (begun ++ day ∷ []) days
    → flat_map (climate_month_lines rows) (months_from (day ∷ []) days) ≡ degrees rows (day ∷ []) ++ lines_after rows (day ∷ []) days
    → flat_map (climate_month_lines rows) (cond same (months_from (begun ++ day ∷ []) days) (begun ∷ months_from (day ∷ []) days))
    ≡ degrees rows begun ++ ((cond same [] (climate_lines 7 rows begun) ++ degree_lines day (day_summary rows day))
    ++ lines_after rows (cond same (begun ++ day ∷ []) (day ∷ [])) days)
month_step rows begun day days true joined apart =
    let ahead = lines_after rows (begun ++ day ∷ []) days in
    joined ∙ ap (λ (ls : List (List ℕ)). ls ++ ahead) (degrees_join rows begun day)
    ∙ append_assoc (degrees rows begun) (degree_lines day (day_summary rows day)) ahead
month_step rows begun day days false joined apart =
    let ahead = lines_after rows (day ∷ []) days in let lines = degree_lines day (day_summary rows day) in
    ap (λ (ls : List (List ℕ)). climate_month_lines rows begun ++ ls) (apart ∙ ap (λ (ls : List (List ℕ)). ls ++ ahead) (append-nil lines))
    ∙ append_assoc (degrees rows begun) (climate_lines 7 rows begun) (lines ++ ahead)
    ∙ ap (λ (ls : List (List ℕ)). degrees rows begun ++ ls) (sym (append_assoc (climate_lines 7 rows begun) lines ahead))

-- the lines of the months are the degree days that were read, and what is ahead
months_split : (rows : List Row) (begun days : List ℤ)
    → flat_map (climate_month_lines rows) (months_from begun days) ≡ degrees rows begun ++ lines_after rows begun days
months_split rows begun [] = append-nil (climate_month_lines rows begun)
months_split rows begun (day ∷ days) =
    month_step rows begun day days (is_of_month begun day) (months_split rows (begun ++ day ∷ []) days) (months_split rows (day ∷ []) days)

-- at the start all are ahead
pub months_start : (rows : List Row) (days : List ℤ) → flat_map (climate_month_lines rows) (months_of days) ≡ lines_after rows [] days
months_start rows [] = refl
months_start rows (day ∷ days) =
    months_split rows (day ∷ []) days
    ∙ ap (λ (ls : List (List ℕ)). ls ++ lines_after rows (day ∷ []) days) (append-nil (degree_lines day (day_summary rows day)))

-- a day is next
pub day_ahead : (rows : List Row) (begun : List ℤ) (day : ℤ) (ahead : List ℤ) (last : List (List ℕ))
    → lines_after rows begun (day ∷ ahead) ++ last ≡ next_lines rows begun day ++ (lines_after rows (month_with begun day) ahead ++ last)
day_ahead rows begun day ahead last = append_assoc (next_lines rows begun day) (lines_after rows (month_with begun day) ahead) last
