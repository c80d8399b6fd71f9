-- The days of the calendar, and how they are counted.
use Rattle.std.specs.Prelude.{ℕ, zero, suc, ◌+◌, ◌≤◌, nat_lt, if◌then◌else◌, pos}
use Rattle.jiff.specs.Words.{days_in_month}
use Rattle.station_base.specs.declared.calendar.CivilDate.{CivilDate}

-- the calendar has this day, and its year has four digits
pub record IsCivilDate (date : CivilDate) : Type 0 where
  pub year_to : date.year ≤ 9999
  pub month_from : 1 ≤ date.month
  pub month_to : date.month ≤ 12
  pub day_from : 1 ≤ date.day
  pub day_to : date.day ≤ days_in_month (pos date.year) date.month

-- the date of this year, month and day
abbrev pub civil_date : ℕ → ℕ → ℕ → CivilDate
civil_date year month day = record { year = year; month = month; day = day }

-- the day after
abbrev pub next_date : CivilDate → CivilDate
next_date date =
    if nat_lt date.day (days_in_month (pos date.year) date.month) then civil_date date.year date.month (date.day + 1)
    else (if nat_lt date.month 12 then civil_date date.year (date.month + 1) 1 else civil_date (date.year + 1) 1 1)

-- the day that many days after 1970-01-01
unfoldable pub date_of : ℕ → CivilDate
date_of zero = civil_date 1970 1 1
date_of (suc day) = next_date (date_of day)
