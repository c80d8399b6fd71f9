-- The totals of days, and one day more.
use Rattle.std.proofs.Common.{◌≡◌, ℕ, ◌+◌, ℤ, Bool, true, false, List, [], ◌∷◌, ◌++◌, Option, Some, None, length, map, cond, refl, sym, ap, ◌∙◌, arith, length-append}
use mir.Val.{bool_byte}
use Rattle.std.specs.Prelude.{filter, option_map}
use Rattle.std.proofs.lemmas.List.{append-nil, map-append}
use Rattle.std.proofs.lemmas.List.Elements.{filter-append}
use Rattle.std.proofs.lemmas.Grind.{flat_map-append}
use Rattle.station_base.specs.declared.row.Row.{Row}
use Rattle.daily_summary.specs.declared.field_sum.FieldSum.{FieldSum}
use Rattle.daily_summary.specs.Summary.{rows_of_day, summary_of}
use Rattle.daily_summary.specs.declared.summary.DaySummary.{DaySummary}
use Rattle.weather_reports.specs.Report.{rows_of_days}
use Rattle.climate_table.specs.declared.climate_summary.ClimateSummary.{ClimateSummary}
use Rattle.climate_table.specs.declared.degree_days.DegreeDays.{DegreeDays}
use Rattle.climate_table.specs.declared.totals.Fraction.{Fraction}
use Rattle.climate_table.specs.DegreeDays.{degrees_of}
use Rattle.climate_table.specs.Climate.{climate_of, outsides, some_of, wet_days}
use Rattle.climate_table.specs.Degrees.{cooling, day_summary, heating, is_wet, outside, rain}
use Rattle.climate_table.specs.Total.{total_of, thousandths}

-- the total of fractions and of more behind them
pub total_join : (xs ys : List Fraction) → total_of (xs ++ ys) ≡ total_of xs + total_of ys
total_join [] ys = omega arith
total_join (x ∷ xs) ys = let more = total_join xs ys in omega (arith, more)

-- the rows of days and of one more
pub rows_join : (rows : List Row) (days : List ℤ) (next : ℤ) → rows_of_days rows (days ++ next ∷ []) ≡ rows_of_days rows days ++ rows_of_day next rows
rows_join rows days next =
    flat_map-append (λ (day : ℤ). rows_of_day day rows) days (next ∷ [])
    ∙ ap (λ (rs : List Row). rows_of_days rows days ++ rs) (append-nil (rows_of_day next rows))

-- their outside temperatures
pub outsides_join : (rows : List Row) (days : List ℤ) (next : ℤ) → outsides rows (days ++ next ∷ []) ≡ outsides rows days ++ some_of (outside (day_summary rows next))
outsides_join rows days next =
    flat_map-append (λ (day : ℤ). some_of (outside (day_summary rows day))) days (next ∷ [])
    ∙ ap (λ (ss : List FieldSum). outsides rows days ++ ss) (append-nil (some_of (outside (day_summary rows next))))

length_one : (b : Bool) (day : ℤ) → length (cond b (day ∷ []) []) ≡ cond b 1 0
length_one true day = refl
length_one false day = refl

-- their days with rain
pub wet_join : (rows : List Row) (days : List ℤ) (next : ℤ)
    → length (wet_days rows (days ++ next ∷ [])) ≡ length (wet_days rows days) + cond (is_wet (rain (day_summary rows next))) 1 0
wet_join rows days next =
    let p = λ (day : ℤ). is_wet (rain (day_summary rows day)) in
    ap length (filter-append p days (next ∷ [])) ∙ length-append (filter p days) (filter p (next ∷ []))
    ∙ ap (λ (n : ℕ). length (filter p days) + n) (length_one (p next) next)

-- the totals of their degree days
pub totals_join : (f : FieldSum → Fraction) (rows : List Row) (days : List ℤ) (next : ℤ)
    → total_of (map f (outsides rows (days ++ next ∷ [])))
    ≡ total_of (map f (outsides rows days)) + total_of (map f (some_of (outside (day_summary rows next))))
totals_join f rows days next =
    ap (λ (ss : List FieldSum). total_of (map f ss)) (outsides_join rows days next)
    ∙ ap total_of (map-append f (outsides rows days) (some_of (outside (day_summary rows next))))
    ∙ total_join (map f (outsides rows days)) (map f (some_of (outside (day_summary rows next))))

abbrev made : DaySummary → ℕ → ℕ → ℕ → ℕ → ClimateSummary
made s d w h c = record { sums = s; days = d; wet = w; heating = h; cooling = c }

same_climate : (a b : ClimateSummary) → a.sums ≡ b.sums → a.days ≡ b.days → a.wet ≡ b.wet → a.heating ≡ b.heating → a.cooling ≡ b.cooling → a ≡ b
same_climate a b sums days wet heating cooling =
    let parts : made a.sums a.days a.wet a.heating a.cooling ≡ made b.sums b.days b.wet b.heating b.cooling =
    rw (sums, days, wet, heating, cooling) refl in parts

-- How the numbers of a summary grow by a day.
pub record GrowsBy (day : DaySummary) (old new : ClimateSummary) : Type 0 where
  pub days : new.days ≡ old.days + length (some_of (outside day))
  pub wet : new.wet ≡ old.wet + cond (is_wet (rain day)) 1 0
  pub heating : new.heating ≡ old.heating + total_of (map heating (some_of (outside day)))
  pub cooling : new.cooling ≡ old.cooling + total_of (map cooling (some_of (outside day)))

-- the totals of days, and one more
pub climate_join : (rows : List Row) (days : List ℤ) (next : ℤ) (day : DaySummary) (old new : ClimateSummary)
    → old ≡ climate_of rows days → day ≡ day_summary rows next → GrowsBy day old new
    → new.sums ≡ summary_of (rows_of_days rows days ++ rows_of_day next rows) → new ≡ climate_of rows (days ++ next ∷ [])
climate_join rows days next day old new was is grows sums =
    same_climate new (climate_of rows (days ++ next ∷ [])) (sums ∙ ap summary_of (sym (rows_join rows days next)))
    (let a = ap (λ (c : ClimateSummary). c.days) was in let b = ap (λ (d : DaySummary). length (some_of (outside d))) is in
    let c = ap length (outsides_join rows days next) ∙ length-append (outsides rows days) (some_of (outside (day_summary rows next))) in
    omega (arith, grows.days, a, b, c))
    (let a = ap (λ (c : ClimateSummary). c.wet) was in let b = ap {B = ℕ} (λ (d : DaySummary). cond (is_wet (rain d)) 1 0) is in
    omega (arith, grows.wet, a, b, wet_join rows days next))
    (let a = ap (λ (c : ClimateSummary). c.heating) was in let b = ap (λ (d : DaySummary). total_of (map heating (some_of (outside d)))) is in
    omega (arith, grows.heating, a, b, totals_join heating rows days next))
    (let a = ap (λ (c : ClimateSummary). c.cooling) was in let b = ap (λ (d : DaySummary). total_of (map cooling (some_of (outside d)))) is in
    omega (arith, grows.cooling, a, b, totals_join cooling rows days next))

-- a day with an outside temperature, by its degree days
pub with_degrees : (sum : Option FieldSum) (d : DegreeDays) → Some d ≡ option_map degrees_of sum
    → (length (some_of sum) ≡ 1) × (total_of (map heating (some_of sum)) ≡ thousandths d.heating)
    × (total_of (map cooling (some_of sum)) ≡ thousandths d.cooling)
with_degrees None d is = absurd cc
with_degrees (Some s) d is =
    let e : d ≡ degrees_of s = cc in
    rw e (refl, omega arith, omega arith)

-- a day with none
pub no_degrees : (sum : Option FieldSum) → (let n : Option DegreeDays = None in n) ≡ option_map degrees_of sum → sum ≡ None
no_degrees None is = refl
no_degrees (Some s) is = absurd cc

-- a click, as the code adds it
pub click_is : (n : ℕ) (b wet : Bool) → n ≡ bool_byte b → b ≡ wet → n ≡ cond wet 1 0
click_is n b true is same = is ∙ ap bool_byte same
click_is n b false is same = is ∙ ap bool_byte same
