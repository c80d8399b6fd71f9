-- How a day is written.
use Rattle.std.specs.Prelude.{ℕ, ℤ, ◌≡◌, ◌<◌, pos, ◌≤ℤ◌, unsigned_abs, List, ◌++◌, codes}
use Rattle.station_base.specs.declared.calendar.CivilDate.{CivilDate}
use Rattle.station_base.specs.CivilDate.{date_of}
use Rattle.station_base.specs.Digits.{digits}

-- a day from 1999-12-31 to 2127-12-31, in days since 1970-01-01
abbrev pub IsDayNumber : ℤ → Type 0
IsDayNumber day = (pos 10956 ≤ℤ day) × (day ≤ℤ pos 57707)

-- YYYY-MM-DD
abbrev pub date_text : CivilDate → List ℕ
date_text date = digits 4 date.year ++ codes "-" ++ digits 2 date.month ++ codes "-" ++ digits 2 date.day

-- the parts are written so, whether the calendar has such a day or not
pub record IsSpelled (date : CivilDate) (text : List ℕ) : Type 0 where
  pub written : text ≡ date_text date
  pub year : date.year < 10000
  pub month : date.month < 100
  pub day : date.day < 100

-- the text of the date of a day
unfoldable pub day_text : ℤ → List ℕ
day_text day = date_text (date_of (unsigned_abs day))
