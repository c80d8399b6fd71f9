-- How far the days of a year lie apart.
use Rattle.std.proofs.Common.{◌≡◌, ℕ, ◌+◌, ◌≤◌, ℤ, pos, negsuc, true, List, take, get_or, refl, sym, ap, ◌∙◌, arith}
use Rattle.std.specs.Prelude.{unsigned_abs}
use Rattle.std.proofs.lemmas.Slice.Eq.{bytes_eq-Decides}
use Rattle.std.proofs.lemmas.Bool.Decides.{nat_tests}
use Rattle.std.specs.Fmt.{decimal}
use Rattle.jiff_core.proofs.SignedLemmas.{signed_arith}
use Rattle.jiff_core.proofs.CalendarLemmas.{day_count-day_of_year, day_of_year_bound, days_from_civil-day_count, days_in_year_bounds}
use Rattle.jiff_core.specs.Calendar.{IsCivilDate as IsJiffDate, days_from_civil}
use Rattle.station_base.specs.declared.calendar.CivilDate.{CivilDate}
use Rattle.station_base.specs.CivilDate.{IsCivilDate, date_of}
use Rattle.station_base.specs.DayText.{IsDayNumber, date_text, day_text}
use Rattle.station_base.proofs.Days.{date_civil, date_counted, day_text_of_date}
use Rattle.climate_table.specs.Table.{is_of_year}

-- texts of one year are of one year
same_year : (a b : CivilDate) → a.year ≤ 9999 → b.year ≤ 9999 → take 4 (date_text a) ≡ take 4 (date_text b) → a.year ≡ b.year
same_year a b small small' same =
    let e0 = ap (λ (t : List ℕ). get_or t 0 0) same in let e1 = ap (λ (t : List ℕ). get_or t 1 0) same in
    let e2 = ap (λ (t : List ℕ). get_or t 2 0) same in let e3 = ap (λ (t : List ℕ). get_or t 3 0) same in
    omega (arith, e0, e1, e2, e3)

-- the calendar of jiff has the date
in_jiff : (date : CivilDate) → IsCivilDate date → IsJiffDate (pos date.year) date.month date.day
in_jiff date civil =
    ((omega (arith, signed_arith), omega (arith, signed_arith, civil.year_to)), (civil.month_from, civil.month_to), (civil.day_from, civil.day_to))

-- days that are counted in one year
spanned : (y : ℤ) (m d k e a b : ℕ) → days_from_civil y m d ≡ pos a → days_from_civil y k e ≡ pos b → 1 ≤ d → IsJiffDate y k e → b ≤ a + 365
spanned y m d k e a b first second low date =
    omega (
      arith,
      signed_arith,
      first,
      second,
      days_from_civil-day_count y m d,
      days_from_civil-day_count y k e,
      day_count-day_of_year y m d low,
      day_count-day_of_year y k e date.2.0,
      day_of_year_bound y k e date,
      days_in_year_bounds y,
    )

texts_span : (a b : ℤ) → IsDayNumber a → IsDayNumber b → take 4 (day_text a) ≡ take 4 (day_text b) → unsigned_abs b ≤ unsigned_abs a + 365
texts_span a b ra rb same =
    let m = unsigned_abs a in let n = unsigned_abs b in
    let ca = date_counted m in let cb = date_counted n in
    let small : m ≤ 57707 = size a ra in let small' : n ≤ 57707 = size b rb in
    let ka = date_civil m small in let kb = date_civil n small' in
    let texts = sym (ap (take 4) (day_text_of_date a (date_of m) refl)) ∙ same ∙ ap (take 4) (day_text_of_date b (date_of n) refl) in
    let year = same_year (date_of m) (date_of n) ka.year_to kb.year_to texts in
    spanned (pos (date_of m).year) (date_of m).month (date_of m).day (date_of n).month (date_of n).day m n ca.counted
    (rw (sym year) at cb.counted) ca.day_from (rw (sym year) at (in_jiff (date_of n) kb))
  where
    size : (z : ℤ) → IsDayNumber z → unsigned_abs z ≤ 57707
    size (pos n) r = omega (arith, signed_arith, r.1)
    size (negsuc n) r = absurd (omega (arith, signed_arith, r.0))

-- a day of the same year comes at most 365 days later
pub year_span : (year : ℕ) (a b : ℤ) → IsDayNumber a → IsDayNumber b → is_of_year year a ≡ true → is_of_year year b ≡ true
    → unsigned_abs b ≤ unsigned_abs a + 365
year_span year a b ra rb of_a of_b =
    let one : take 4 (day_text a) ≡ decimal year = grind (arith, nat_tests, bytes_eq-Decides) in
    let two : take 4 (day_text b) ≡ decimal year = grind (arith, nat_tests, bytes_eq-Decides) in
    texts_span a b ra rb (one ∙ sym two)
