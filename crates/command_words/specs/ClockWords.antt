-- The words that name a second of a console's clock.
use Rattle.std.specs.Prelude.{ℕ, ◌==◌, ◌&&◌, Bool, if◌then◌else◌, List, length, take, drop, slice_index, None}
use Rattle.std.specs.declared.option.Option.{Option}
use Rattle.station_base.specs.ClockTime.{can_be_shown}
use Rattle.station_base.specs.declared.clock.ClockTime.{ClockTime}
use Rattle.numerals.specs.Numeral.{number_in}
use Rattle.numerals.specs.Then.{◌>>=◌, only_if}

-- YYYY-MM-DD: the bytes at the fifth and eighth place are `-`
abbrev pub has_form_of_date : List ℕ → Bool
has_form_of_date word = length word == 10 && slice_index word 4 == 45 && slice_index word 7 == 45

-- HH:MM:SS: the bytes at the third and sixth place are `:`
abbrev pub has_form_of_time : List ℕ → Bool
has_form_of_time word = length word == 8 && slice_index word 2 == 58 && slice_index word 5 == 58

-- so many decimal digits of a word, from a place on
abbrev pub clock_number : ℕ → ℕ → List ℕ → Option ℕ
clock_number place count word = number_in 10 count (take count (drop place word))

-- the second, where the calendar has it and its year is 1900 to 2155
abbrev pub civil_only : ClockTime → Option ClockTime
civil_only time = only_if (can_be_shown time) time

-- the second that the parts of a date and of a time name
abbrev pub second_named : List ℕ → List ℕ → Option ClockTime
second_named date time = do
  year ← clock_number 0 4 date
  month ← clock_number 5 2 date
  day ← clock_number 8 2 date
  hour ← clock_number 0 2 time
  minute ← clock_number 3 2 time
  second ← clock_number 6 2 time
  civil_only (record { year = year; month = month; day = day; hour = hour; minute = minute; second = second })

-- YYYY-MM-DD and HH:MM:SS
unfoldable pub second_at : List ℕ → List ℕ → Option ClockTime
second_at date time =
    if has_form_of_date date && has_form_of_time time then second_named date time else None
