-- What the words behind `report ARCHIVE` ask for.
use Rattle.std.specs.Prelude.{ℕ, zero, suc, pos, int_le, if◌then◌else◌, List, codes, Some, None}
use Rattle.std.specs.declared.option.Option.{Option}
use Rattle.std.specs.Str.{bytes_eq}
use Rattle.station_base.specs.DayText.{day_text}
use Rattle.station_base.specs.declared.day.DayNumber.{DayNumber}
use Rattle.numerals.specs.Then.{◌>>=◌, only_if}
use Rattle.command_words.specs.declared.wanted.ReportKind.{ReportKind}
use Rattle.command_words.specs.declared.wanted.ReportKind.TheVariants.{Rows, Days, Months}
use Rattle.command_words.specs.declared.wanted.Wanted.{Wanted}

-- `rows`, `days` or `months`
abbrev pub report_kind_in : List ℕ → Option ReportKind
report_kind_in word =
    if bytes_eq word (codes "rows") then Some Rows
    else if bytes_eq word (codes "days") then Some Days
    else if bytes_eq word (codes "months") then Some Months
    else None

-- the first of so many days, from one on, that is written so
abbrev pub first_written : ℕ → ℕ → List ℕ → Option DayNumber
first_written day zero word = None
first_written day (suc more) word =
    if bytes_eq word (day_text (pos day)) then Some (record { 0 = pos day }) else first_written (suc day) more word

-- the day that is written so as `YYYY-MM-DD`: one of the 46,752 from 1999-12-31, day 10,956, to 2127-12-31
unfoldable pub day_in : List ℕ → Option DayNumber
day_in word = first_written 10956 46752 word

-- `KIND FIRST LAST`: a kind, and two days of which the second is not before the first
unfoldable pub wanted_in : List ℕ → List ℕ → List ℕ → Option Wanted
wanted_in word from to = do
  kind ← report_kind_in word
  first ← day_in from
  last ← day_in to
  only_if (int_le first.0 last.0) (record { kind = kind; first = first; last = last })
