-- How far the days of a month lie apart.
use Rattle.std.proofs.Common.{◌≡◌, ℕ, ◌+◌, ◌≤◌, ℤ, pos, negsuc, List, take, get_or, refl, sym, ap, ◌∙◌, arith}
use Rattle.std.specs.Prelude.{unsigned_abs}
use Rattle.jiff_core.proofs.SignedLemmas.{signed_arith}
use Rattle.jiff_core.proofs.CalendarLemmas.{days_in_month_bounds}
use Rattle.jiff_core.proofs.DateLemmas.{days_from_civil-day}
use Rattle.jiff_core.specs.Calendar.{days_from_civil}
use Rattle.station_base.specs.declared.calendar.CivilDate.{CivilDate}
use Rattle.station_base.specs.CivilDate.{date_of}
use Rattle.station_base.specs.DayText.{IsDayNumber, date_text}
use Rattle.station_base.proofs.Days.{date_civil, date_counted, day_text_of_date}
use Rattle.weather_reports.specs.Months.{month_text}

-- texts of one month are of one year
same_year : (a b : CivilDate) → a.year ≤ 9999 → b.year ≤ 9999 → take 7 (date_text a) ≡ take 7 (date_text b) → a.year ≡ b.year
same_year a b small small' same =
    let e0 = ap (λ (t : List ℕ). get_or t 0 0) same in let e1 = ap (λ (t : List ℕ). get_or t 1 0) same in
    let e2 = ap (λ (t : List ℕ). get_or t 2 0) same in let e3 = ap (λ (t : List ℕ). get_or t 3 0) same in
    omega (arith, e0, e1, e2, e3)

-- and of one month
same_month : (a b : CivilDate) → a.month ≤ 12 → b.month ≤ 12 → take 7 (date_text a) ≡ take 7 (date_text b) → a.month ≡ b.month
same_month a b small small' same =
    let e5 = ap (λ (t : List ℕ). get_or t 5 0) same in let e6 = ap (λ (t : List ℕ). get_or t 6 0) same in omega (arith, e5, e6)

-- days that are counted from one month on
spanned : (y : ℤ) (m d e a b : ℕ) → days_from_civil y m d ≡ pos a → days_from_civil y m e ≡ pos b → 1 ≤ d → 1 ≤ e → e ≤ 31 → b ≤ a + 30
spanned y m d e a b first second low low' high = omega (arith, signed_arith, first, second, days_from_civil-day y m d e low low')

-- a day of the same month comes at most thirty days later
pub month_span : (a b : ℤ) → IsDayNumber a → IsDayNumber b → month_text a ≡ month_text b → unsigned_abs b ≤ unsigned_abs a + 30
month_span a b ra rb same =
    let m = unsigned_abs a in let n = unsigned_abs b in
    let ca = date_counted m in let cb = date_counted n in
    let small : m ≤ 57707 = size a ra in let small' : n ≤ 57707 = size b rb in
    let ka = date_civil m small in let kb = date_civil n small' in
    let texts = sym (ap (take 7) (day_text_of_date a (date_of m) refl)) ∙ same ∙ ap (take 7) (day_text_of_date b (date_of n) refl) in
    let year = same_year (date_of m) (date_of n) ka.year_to kb.year_to texts in
    let month = same_month (date_of m) (date_of n) ca.month_to cb.month_to texts in
    let high = days_in_month_bounds (pos (date_of n).year) (date_of n).month in
    spanned (pos (date_of m).year) (date_of m).month (date_of m).day (date_of n).day m n ca.counted
    (rw (sym year, sym month) at cb.counted) ca.day_from cb.day_from (omega (arith, high, cb.day_to))
  where
    size : (z : ℤ) → IsDayNumber z → unsigned_abs z ≤ 57707
    size (pos n) r = omega (arith, signed_arith, r.1)
    size (negsuc n) r = absurd (omega (arith, signed_arith, r.0))
