-- Minutes and the civil minutes that they number.
use Rattle.std.proofs.Common.{◌≡◌, ℕ, ◌/◌, ◌%◌, ◌≤◌, pos, ap, arith, unsigned_abs}
use Rattle.jiff_core.proofs.SignedLemmas.{signed_arith}
use Rattle.jiff_core.proofs.StandardFacts.{known_days}
use Rattle.jiff_core.specs.Calendar.{days_from_civil}
use Rattle.station_base.specs.declared.calendar.CivilDate.{CivilDate}
use Rattle.station_base.specs.CivilDate.{date_of}
use Rattle.station_base.specs.CivilMinute.{CivilMinute, IsCivilMinute, minute_of, first_minute, last_minute}
use Rattle.station_base.proofs.Days.{date_civil, date_counted, last_day, jiff_date, year_from, year_to}

-- the first and the last minute that two words can name, in minutes since 1970-01-01 00:00
pub first_minute_number : minute_of first_minute ≡ 15778080
first_minute_number = omega (arith, ap unsigned_abs known_days.2)

pub last_minute_number : minute_of last_minute ≡ 83099519
last_minute_number = omega (arith, ap unsigned_abs last_day)

-- a day of a stamp is in the years of a stamp
stamp_years : (day : ℕ) → 10957 ≤ day → day ≤ 57707 → (2000 ≤ (date_of day).year) × ((date_of day).year ≤ 2127)
unfolding jiff_date
stamp_years day from to =
    let d = jiff_date (date_of day) (date_civil day to) in
    let counted = (date_counted day).counted in
    (omega (arith, signed_arith, year_from d (omega (arith, signed_arith, counted))), omega (arith, signed_arith, year_to d (omega (arith, signed_arith, counted))))

abbrev pub minute_in : CivilDate → ℕ → CivilMinute
minute_in date number =
    record { year = date.year; month = date.month; day = date.day; hour = number % 1440 / 60; minute = number % 60 }

-- a number between those of the first and the last stamp is that of the minute which the code makes
pub minute_made : (number : ℕ) (date : CivilDate) → date ≡ date_of (number / 1440) → 15778080 ≤ number → number ≤ 83099519 → IsCivilMinute (minute_in date number)
minute_made number date is from to =
    let day = number / 1440 in
    let years = stamp_years day (omega arith) (omega arith) in
    let civil = date_civil day (omega arith) in
    rw is
    record {
      year_from = years.0;
      year_to = years.1;
      month_from = civil.month_from;
      month_to = civil.month_to;
      day_from = civil.day_from;
      day_to = civil.day_to;
      hour_to = omega arith;
      minute_to = omega arith;
    }

pub minute_of-made : (number : ℕ) (date : CivilDate) → date ≡ date_of (number / 1440) → minute_of (minute_in date number) ≡ number
minute_of-made number date is =
    let counted : days_from_civil (pos date.year) date.month date.day ≡ pos (number / 1440) = rw is (date_counted (number / 1440)).counted in
    omega (arith, ap unsigned_abs counted)
