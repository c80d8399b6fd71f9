-- A second of the calendar, and the six bytes by which a console shows one (Davis serial manual, "GETTIME").
use Rattle.std.specs.Prelude.{ℕ, ◌+◌, ◌-◌, ◌&&◌, Bool, nat_le, nat_lt, pos, List, [], ◌∷◌, slice_index}
use Rattle.jiff.specs.Words.{days_in_month}
use Rattle.station_base.specs.declared.clock.ClockTime.{ClockTime}

-- the calendar has this day
abbrev pub is_civil_day : ℕ → ℕ → ℕ → Bool
is_civil_day year month day =
    nat_le 1 month && nat_le month 12 && nat_le 1 day && nat_le day (days_in_month (pos year) month)

-- the calendar has this second
unfoldable pub is_civil_second : ClockTime → Bool
is_civil_second time =
    nat_lt time.second 60 && nat_lt time.minute 60 && nat_lt time.hour 24 && is_civil_day time.year time.month time.day

-- whether the calendar has this second, of a year from 1900 to 2155, which one byte can tell
abbrev pub can_be_shown : ClockTime → Bool
can_be_shown time = nat_le 1900 time.year && nat_le time.year 2155 && is_civil_second time

-- second, minute, hour, day, month and year less 1900
abbrev pub clock_bytes : ClockTime → List ℕ
clock_bytes time = time.second ∷ time.minute ∷ time.hour ∷ time.day ∷ time.month ∷ (time.year - 1900) ∷ []

-- the time that six bytes show
abbrev pub time_shown : List ℕ → ClockTime
time_shown bytes = record {
  year = 1900 + slice_index bytes 5;
  month = slice_index bytes 4;
  day = slice_index bytes 3;
  hour = slice_index bytes 2;
  minute = slice_index bytes 1;
  second = slice_index bytes 0;
}
