-- Days and their dates: what the calendar of jiff says of them.
use Rattle.std.proofs.Common.{List, ◌≡◌, ℕ, zero, suc, ◌+◌, ◌^◌, ◌<◌, ◌≤◌, Bool, true, false, inl, inr, ℤ, pos, negsuc, ap, refl, sym, subst, ◌∙◌, arith, lit≤, cond, unsigned_abs, nat_lt, ◌≤ℤ◌, to_z, of_z, w8, w16, w32, min}
use mir.Val.{hbits}
use Rattle.std.proofs.Math.Facts.{to_z_pos}
use Rattle.std.proofs.lemmas.Bool.Decides.{nat_tests}
use Rattle.std.proofs.lemmas.Int.{by_lt_z}
use Rattle.jiff_core.specs.Calendar.{days_from_civil, IsDate, IsEpochDay, days_in_month, day_count, days_of_years, days_of_months}
use Rattle.jiff_core.specs.Date.{epoch_day, IsYmd}
use Rattle.jiff_core.specs.declared.civil.date.Date.{Date}
use Rattle.jiff_core.proofs.CalendarLemmas.{days_from_civil-day_count, day_count-lt_year, days_in_month_bounds}
use Rattle.jiff_core.proofs.DateLemmas.{cases_date, epoch_day-lt, epoch_day_injective, days_from_civil-day, days_from_civil-next_month, days_from_civil-next_year}
use Rattle.jiff_core.proofs.SignedLemmas.{signed_arith, back_small}
use Rattle.jiff_core.proofs.StandardFacts.{known_days}
use Rattle.station_base.specs.declared.calendar.CivilDate.{CivilDate}
use Rattle.station_base.specs.CivilDate.{IsCivilDate, civil_date, next_date, date_of}
use Rattle.station_base.specs.DayText.{IsDayNumber, IsSpelled, date_text, day_text}

-- the date as jiff has it
unfoldable pub jiff_date : (date : CivilDate) → IsCivilDate date → Date
jiff_date date civil = record {
  year = pos date.year;
  month = date.month;
  day = date.day;
  year_in = (omega (arith, signed_arith), omega (arith, signed_arith));
  month_in = (civil.month_from, civil.month_to);
  day_in = (civil.day_from, civil.day_to);
}

-- 2127-12-31 is day 57,707
pub last_day : days_from_civil (pos 2127) 12 31 ≡ pos 57707
unfolding days_from_civil day_count days_of_years days_of_months
last_day = refl

pub first_of : Date
first_of = record { year = pos 2000; month = 1; day = 1; year_in = (omega (arith, signed_arith), omega (arith, signed_arith)); month_in = (lit≤ tt, lit≤ tt); day_in = (lit≤ tt, lit≤ tt) }

pub last_of : Date
last_of = record { year = pos 2127; month = 12; day = 31; year_in = (omega (arith, signed_arith), omega (arith, signed_arith)); month_in = (lit≤ tt, lit≤ tt); day_in = (lit≤ tt, lit≤ tt) }

-- a date before 2128 is at most day 57,707
pub epoch_day_to : (d : Date) → d.year ≤ℤ pos 2127 → epoch_day d ≤ℤ pos 57707
unfolding last_of
epoch_day_to d year =
    elim (cases_date d last_of) [
      | inl earlier ↦ omega (arith, signed_arith, last_day, epoch_day-lt d last_of earlier)
      | inr (inl (inl later)) ↦ absurd (omega (arith, signed_arith))
      | inr (inl (inr (_, inl later))) ↦ absurd (omega (arith, signed_arith, d.month_in.1))
      | inr (inl (inr (_, inr (month, later)))) ↦ absurd (omega (arith, signed_arith, d.day_in.1, days_in_month_bounds d.year d.month))
      | inr (inr same) ↦ (let is_last : epoch_day d ≡ pos 57707 = rw (same.0, same.1, same.2) last_day in omega (arith, signed_arith))
    ]

-- a date after 1999 is at least day 10,957
pub epoch_day_from : (d : Date) → pos 2000 ≤ℤ d.year → pos 10957 ≤ℤ epoch_day d
unfolding first_of
epoch_day_from d year =
    elim (cases_date first_of d) [
      | inl earlier ↦ omega (arith, signed_arith, known_days.2, epoch_day-lt first_of d earlier)
      | inr (inl (inl later)) ↦ absurd (omega (arith, signed_arith))
      | inr (inl (inr (_, inl later))) ↦ absurd (omega (arith, signed_arith, d.month_in.0))
      | inr (inl (inr (_, inr (month, later)))) ↦ absurd (omega (arith, signed_arith, d.day_in.0))
      | inr (inr same) ↦ (let is_first : epoch_day d ≡ pos 10957 = rw (← same.0, ← same.1, ← same.2) known_days.2 in omega (arith, signed_arith))
    ]

-- and a day of these years has a date of these years
pub year_from : (d : Date) → pos 10957 ≤ℤ epoch_day d → pos 2000 ≤ℤ d.year
unfolding first_of
year_from d day =
    by_lt_z d.year (pos 2000) (λ before. absurd (omega (arith, signed_arith, known_days.2, epoch_day-lt d first_of (inl before)))) (λ from. from)

pub year_to : (d : Date) → epoch_day d ≤ℤ pos 57707 → d.year ≤ℤ pos 2127
unfolding last_of
year_to d day =
    by_lt_z (pos 2127) d.year (λ past. absurd (omega (arith, signed_arith, last_day, epoch_day-lt last_of d (inl past)))) (λ to. to)

-- a date that is counted as that day
pub record IsCounted (day : ℕ) (date : CivilDate) : Type 0 where
  pub counted : days_from_civil (pos date.year) date.month date.day ≡ pos day
  pub year_from : 1970 ≤ date.year
  pub month_from : 1 ≤ date.month
  pub month_to : date.month ≤ 12
  pub day_from : 1 ≤ date.day
  pub day_to : date.day ≤ days_in_month (pos date.year) date.month

ends_month : (date : CivilDate) {day : ℕ} → IsCounted day date → nat_lt date.day (days_in_month (pos date.year) date.month) ≡ false →
    date.day ≡ days_in_month (pos date.year) date.month
ends_month date is past =
    let from : days_in_month (pos date.year) date.month ≤ date.day = grind (arith, nat_tests) in
    omega (arith, is.day_to)

later : CivilDate → Bool → Bool → CivilDate
later date within_month within_year =
    cond within_month (civil_date date.year date.month (date.day + 1))
    (cond within_year (civil_date date.year (date.month + 1) 1) (civil_date (date.year + 1) 1 1))

by_tests : (day : ℕ) (date : CivilDate) → IsCounted day date → (within_month within_year : Bool) →
    nat_lt date.day (days_in_month (pos date.year) date.month) ≡ within_month → nat_lt date.month 12 ≡ within_year →
    IsCounted (suc day) (later date within_month within_year)
unfolding later
by_tests day date is true within_year month year =
    let before : date.day < days_in_month (pos date.year) date.month = grind (arith, nat_tests) in
    record {
      counted = omega (arith, signed_arith, is.counted, days_from_civil-day (pos date.year) date.month date.day (date.day + 1) is.day_from (omega arith));
      year_from = is.year_from;
      month_from = is.month_from;
      month_to = is.month_to;
      day_from = omega arith;
      day_to = omega arith;
    }
by_tests day date is false true month year =
    let ends : date.day ≡ days_in_month (pos date.year) date.month = ends_month date is month in
    let before : date.month < 12 = grind (arith, nat_tests) in
    record {
      counted = omega (arith, signed_arith, is.counted, days_from_civil-next_month (pos date.year) date.month date.day is.month_from ends);
      year_from = is.year_from;
      month_from = omega arith;
      month_to = omega arith;
      day_from = lit≤ tt;
      day_to = omega (arith, days_in_month_bounds (pos date.year) (date.month + 1));
    }
by_tests day date is false false month year =
    let ends : date.day ≡ days_in_month (pos date.year) date.month = ends_month date is month in
    let december : date.month ≡ 12 = grind (arith, nat_tests, is.month_to) in
    let last : date.day ≡ 31 = ends ∙ ap (days_in_month (pos date.year)) december in
    let counted : days_from_civil (pos date.year) 12 31 ≡ pos day = rw (← december, ← last) is.counted in
    record {
      counted = omega (arith, signed_arith, counted, days_from_civil-next_year (pos date.year) (pos (date.year + 1)) (omega (arith, signed_arith)) (omega (arith, signed_arith)));
      year_from = omega (arith, is.year_from);
      month_from = lit≤ tt;
      month_to = lit≤ tt;
      day_from = lit≤ tt;
      day_to = omega (arith, days_in_month_bounds (pos (date.year + 1)) 1);
    }

-- the day after is counted as the day after
next_counted : (day : ℕ) (date : CivilDate) → IsCounted day date → IsCounted (suc day) (next_date date)
unfolding later
next_counted day date is = by_tests day date is (nat_lt date.day (days_in_month (pos date.year) date.month)) (nat_lt date.month 12) refl refl

-- the date of a day is counted as that day
pub date_counted : (day : ℕ) → IsCounted day (date_of day)
unfolding date_of
date_counted zero = record { counted = known_days.0; year_from = lit≤ tt; month_from = lit≤ tt; month_to = lit≤ tt; day_from = lit≤ tt; day_to = lit≤ tt }
date_counted (suc day) = next_counted day (date_of day) (date_counted day)

-- up to 2127-12-31 the year has four digits
counted_year : (day : ℕ) (date : CivilDate) → IsCounted day date → day ≤ 57707 → date.year ≤ 9999
unfolding last_of
counted_year day date is within =
    by_lt_z (pos 2127) (pos date.year)
    (λ past. absurd (omega (arith, signed_arith, is.counted, last_day, days_from_civil-day_count, day_count-lt_year (pos 2127) 12 31 (pos date.year) date.month date.day (last_of.year_in, last_of.month_in, last_of.day_in) is.day_from past)))
    (λ to. omega (arith, signed_arith))

-- so the date of a day is in the calendar
pub date_civil : (day : ℕ) → day ≤ 57707 → IsCivilDate (date_of day)
date_civil day within =
    let is = date_counted day in
    record { year_to = counted_year day (date_of day) is within; month_from = is.month_from; month_to = is.month_to; day_from = is.day_from; day_to = is.day_to }

-- what the calendar of jiff counts as a day is the date of that day
pub date_is : (day : ℕ) (d : Date) → epoch_day d ≡ pos day → day ≤ 57707 →
    (d.year ≡ pos (date_of day).year) × (d.month ≡ (date_of day).month) × (d.day ≡ (date_of day).day)
unfolding jiff_date
date_is day d counted within =
    epoch_day_injective d (jiff_date (date_of day) (date_civil day within)) (counted ∙ sym (date_counted day).counted)

unsigned_pos : (z : ℤ) (n : ℕ) → z ≡ pos n → unsigned_abs z ≡ n
unsigned_pos z n is = ap unsigned_abs is

-- the year without its sign, as the code takes it
pub year_is : (z : ℤ) (year : ℕ) → z ≡ pos year → year ≤ 9999 → unsigned_abs (to_z w16 (of_z w16 z)) ≡ year
year_is z year is within =
    let small : unsigned_abs z < 2 ^ hbits w16 = omega (arith, unsigned_pos z year is) in
    ap unsigned_abs (back_small w16 z small) ∙ unsigned_pos z year is

same_date : (a b : CivilDate) → a.year ≡ b.year → a.month ≡ b.month → a.day ≡ b.day → a ≡ b
same_date a b year month day =
    let parts : civil_date a.year a.month a.day ≡ civil_date b.year b.month b.day = rw (year, month, day) refl in parts

-- a date in the code, made of the parts that jiff has
pub date_made : (day : ℕ) (d : Date) (made : CivilDate) → epoch_day d ≡ pos day → day ≤ 57707 →
    made.year ≡ unsigned_abs (to_z w16 (of_z w16 d.year)) → made.month ≡ d.month → made.day ≡ d.day → made ≡ date_of day
date_made day d made counted within year month day_is =
    let is = date_is day d counted within in
    same_date made (date_of day) (year ∙ year_is d.year (date_of day).year is.0 (date_civil day within).year_to) (month ∙ is.1) (day_is ∙ is.2)

-- a year of four digits in jiff's signed numbers
pub signed_year : (year : ℕ) → year ≤ 9999 → to_z w16 year ≡ pos year
signed_year year within = to_z_pos w16 (omega arith)

-- the parts that jiff takes are those of the date
constrained : (date : CivilDate) (d : Date) → IsCivilDate date → d.year ≡ pos date.year → d.month ≡ date.month →
    d.day ≡ min date.day (days_in_month (pos date.year) date.month) → epoch_day d ≡ days_from_civil (pos date.year) date.month date.day
constrained date d civil year month day =
    let in_month : min date.day (days_in_month (pos date.year) date.month) ≡ date.day = omega (arith, civil.day_to) in
    rw (year, month, day ∙ in_month) refl

-- a day number that the code has without its sign
pub record IsDayOf (date : CivilDate) (number : ℕ) : Type 0 where
  pub day : number ≡ unsigned_abs (days_from_civil (pos date.year) date.month date.day)
  pub from : 10957 ≤ number
  pub to : number ≤ 57707

-- a day that is not negative keeps its number without a sign
pub unsigned_between : (low high : ℕ) (day : ℤ) → pos low ≤ℤ day → day ≤ℤ pos high → (low ≤ unsigned_abs day) × (unsigned_abs day ≤ high)
unsigned_between low high (pos n) from to = (omega (arith, signed_arith), omega (arith, signed_arith))
unsigned_between low high (negsuc n) from to = absurd (omega (arith, signed_arith))

unsigned_day : (z count : ℤ) (number : ℕ) → z ≡ count → pos 10957 ≤ℤ count → count ≤ℤ pos 57707 → number ≡ unsigned_abs (to_z w32 (of_z w32 z)) →
    (number ≡ unsigned_abs count) × (10957 ≤ number) × (number ≤ 57707)
unsigned_day z count number is from to taken =
    let within = unsigned_between 10957 57707 count from to in
    let small : unsigned_abs z < 2 ^ hbits w32 = rw is (omega (arith, within.1)) in
    let same : number ≡ unsigned_abs count = taken ∙ ap unsigned_abs (back_small w32 z small ∙ is) in
    (same, omega (arith, same, within.0), omega (arith, same, within.1))

-- the day of a date, as the code makes it of the parts and takes it without its sign
pub day_made : (date : CivilDate) (d : Date) (z : ℤ) (number : ℕ) → IsCivilDate date → 2000 ≤ date.year → date.year ≤ 2127 →
    d.year ≡ to_z w16 date.year → d.month ≡ date.month → d.day ≡ min date.day (days_in_month (to_z w16 date.year) date.month) →
    z ≡ epoch_day d → number ≡ unsigned_abs (to_z w32 (of_z w32 z)) → IsDayOf date number
day_made date d z number civil year_low year_high year month day counted taken =
    let signed = signed_year date.year civil.year_to in
    let year_is : d.year ≡ pos date.year = year ∙ signed in
    let day_is : d.day ≡ min date.day (days_in_month (pos date.year) date.month) = day ∙ ap (λ y. min date.day (days_in_month y date.month)) signed in
    let from : pos 2000 ≤ℤ d.year = rw year_is (omega (arith, signed_arith)) in
    let to : d.year ≤ℤ pos 2127 = rw year_is (omega (arith, signed_arith)) in
    let is = unsigned_day z (epoch_day d) number counted (epoch_day_from d from) (epoch_day_to d to) taken in
    record { day = is.0 ∙ ap unsigned_abs (constrained date d civil year_is month day_is); from = is.1; to = is.2 }

-- a day of a stamp, as the code takes it without its sign
pub day_taken : (day : ℤ) (number : ℕ) → IsDayNumber day → number ≡ unsigned_abs (to_z w32 (of_z w32 day)) → (number ≡ unsigned_abs day) × (number ≤ 57707)
day_taken day number range taken =
    let within = unsigned_between 10956 57707 day range.0 range.1 in
    let small : unsigned_abs day < 2 ^ hbits w32 = omega (arith, within.1) in
    let same : number ≡ unsigned_abs day = taken ∙ ap unsigned_abs (back_small w32 day small) in
    (same, omega (arith, same, within.1))

-- a date of the calendar that is counted as a day is the date of that day
pub date_only : (day : ℤ) (date : CivilDate) → IsDayNumber day → IsCivilDate date → days_from_civil (pos date.year) date.month date.day ≡ day → date ≡ date_of (unsigned_abs day)
unfolding jiff_date
date_only (pos n) date range civil counted =
    let within : n ≤ 57707 = omega (arith, signed_arith, range.1) in
    let is = date_is n (jiff_date date civil) counted within in
    same_date date (date_of n) (ap unsigned_abs is.0) is.1 is.2
date_only (negsuc n) date range civil counted = absurd (omega (arith, signed_arith, range.0))

-- the text of a day is that of its date
pub day_text_of_date : (day : ℤ) (date : CivilDate) → date ≡ date_of (unsigned_abs day) → day_text day ≡ date_text date
unfolding day_text
day_text_of_date day date is = ap date_text (sym is)

-- jiff counts its days in 32 bits
pub count_back : (z : ℤ) → IsEpochDay z → to_z w32 (of_z w32 z) ≡ z
count_back z range = back_small w32 z (by_sign z range)
  where
    by_sign : (y : ℤ) → IsEpochDay y → unsigned_abs y < 2 ^ hbits w32
    by_sign (pos n) r = omega (arith, signed_arith)
    by_sign (negsuc n) r = omega (arith, signed_arith)

-- the parts of a date, where a text has few enough digits for them
pub record HasFewDigits (date : CivilDate) : Type 0 where
  pub year : date.year < 10000
  pub month : date.month < 100
  pub day : date.day < 100

-- a date of a day can be had of jiff
pub date_can : (day : ℤ) (date : CivilDate) → HasFewDigits date → IsDayNumber day → date ≡ date_of (unsigned_abs day) →
    IsDate (to_z w16 date.year) (to_z w8 date.month) (to_z w8 date.day)
date_can day date few range is =
    let within = unsigned_between 10956 57707 day range.0 range.1 in
    let civil : IsCivilDate date = rw is (date_civil (unsigned_abs day) within.1) in
    rw (to_z_pos w16 {n = date.year} (omega (arith, few.year)), to_z_pos w8 {n = date.month} (omega (arith, few.month)), to_z_pos w8 {n = date.day} (omega (arith, few.day)))
    ((omega (arith, signed_arith, few.year), omega (arith, signed_arith)), (omega (arith, signed_arith, civil.month_from), omega (arith, signed_arith, civil.month_to)), (omega (arith, signed_arith, civil.day_from), omega (arith, signed_arith, civil.day_to)))

-- what jiff made of the parts has these parts
parts_made : (date : CivilDate) (d : Date) → HasFewDigits date → IsYmd (to_z w16 date.year) (to_z w8 date.month) (to_z w8 date.day) d →
    (d.year ≡ pos date.year) × (d.month ≡ date.month) × (d.day ≡ date.day)
parts_made date d few (year, month, day) =
    (year ∙ to_z_pos w16 (omega (arith, few.year)), ap unsigned_abs (month ∙ to_z_pos w8 {n = date.month} (omega (arith, few.month))), ap unsigned_abs (day ∙ to_z_pos w8 {n = date.day} (omega (arith, few.day))))

-- so its count is that of the date
pub counted_found : (date : CivilDate) (d : Date) (z : ℤ) → HasFewDigits date → IsYmd (to_z w16 date.year) (to_z w8 date.month) (to_z w8 date.day) d →
    z ≡ epoch_day d → IsDayNumber z → date ≡ date_of (unsigned_abs z)
counted_found date d (pos n) few made counted range =
    let parts = parts_made date d few made in
    let is = date_is n d (sym counted) (omega (arith, signed_arith, range.1)) in
    same_date date (date_of n) (ap unsigned_abs (sym parts.0 ∙ is.0)) (sym parts.1 ∙ is.1) (sym parts.2 ∙ is.2)
counted_found date d (negsuc n) few made counted range = absurd (omega (arith, signed_arith, range.0))

pub counted_only : (date : CivilDate) (d : Date) (z day : ℤ) → HasFewDigits date → IsYmd (to_z w16 date.year) (to_z w8 date.month) (to_z w8 date.day) d →
    z ≡ epoch_day d → IsDayNumber day → date ≡ date_of (unsigned_abs day) → z ≡ day
counted_only date d z (pos n) few made counted range is =
    let parts = parts_made date d few made in
    let days : days_from_civil (pos date.year) date.month date.day ≡ pos n = rw is (date_counted n).counted in
    counted ∙ (rw (parts.0, parts.1, parts.2) days)
counted_only date d z (negsuc n) few made counted range is = absurd (omega (arith, signed_arith, range.0))

-- the text of a day spells its date
pub day_spelled : (day : ℤ) (text : List ℕ) → IsDayNumber day → text ≡ day_text day → IsSpelled (date_of (unsigned_abs day)) text
day_spelled day text range is =
    let date = date_of (unsigned_abs day) in
    let within = unsigned_between 10956 57707 day range.0 range.1 in
    let civil = date_civil (unsigned_abs day) within.1 in
    record {
      written = is ∙ day_text_of_date day date refl;
      year = omega (arith, civil.year_to);
      month = omega (arith, civil.month_to);
      day = omega (arith, civil.day_to, days_in_month_bounds (pos date.year) date.month);
    }

-- the date that the code makes of a day is the date of that day
pub date_taken : (day : ℤ) (number : ℕ) (date : CivilDate) → IsDayNumber day → number ≡ unsigned_abs (to_z w32 (of_z w32 day)) →
    date ≡ date_of number → date ≡ date_of (unsigned_abs day)
date_taken day number date range taken is = is ∙ ap date_of (day_taken day number range taken).0

-- so it has a year of four digits, and a month and a day of two
pub date_spelled : (day : ℤ) (number : ℕ) (date : CivilDate) → IsDayNumber day → number ≡ unsigned_abs (to_z w32 (of_z w32 day)) →
    date ≡ date_of number → IsSpelled date (day_text day)
date_spelled day number date range taken is =
    let P : CivilDate → Type 0 = λ date. IsSpelled date (day_text day) in
    subst P (sym (date_taken day number date range taken is)) (day_spelled day (day_text day) range refl)

-- a day number is stored in 32 bits
pub day_back : (day : ℤ) → IsDayNumber day → to_z w32 (of_z w32 day) ≡ day
day_back day range =
    let within = unsigned_between 10956 57707 day range.0 range.1 in
    back_small w32 day (omega (arith, within.1))
