-- Records whose stamp is moved on.
use Rattle.std.specs.Prelude.{ℕ, ◌+◌, ◌/◌, ◌%◌, nat_le, if◌then◌else◌, List, ◌++◌, drop, Some, None}
use Rattle.std.specs.declared.option.Option.{Option}
use Rattle.std.specs.Int.{w16, to_le_bytes}
use Rattle.station_base.specs.CivilDate.{date_of}
use Rattle.station_base.specs.CivilMinute.{CivilMinute, minute_of, last_minute}
use Rattle.station_base.specs.Stamp.{date_word_of, time_word_of}
use Rattle.archive_record.specs.Reading.{stamp_in}

-- the minute that many minutes after 1970-01-01 00:00
abbrev pub minute_numbered : ℕ → CivilMinute
minute_numbered number =
    let date = date_of (number / 1440) in
    record {
      year = date.year;
      month = date.month;
      day = date.day;
      hour = number % 1440 / 60;
      minute = number % 60;
    }

-- the record with this stamp in its first four bytes, and the same values
abbrev pub with_stamp : CivilMinute → List ℕ → List ℕ
with_stamp stamp rec = to_le_bytes w16 (date_word_of stamp) ++ to_le_bytes w16 (time_word_of stamp) ++ drop 4 rec

-- the record of this stamp with its stamp moved on by so many minutes, where a stamp comes so late
abbrev pub moved_by : ℕ → Option CivilMinute → List ℕ → Option (List ℕ)
moved_by minutes None rec = None
moved_by minutes (Some stamp) rec =
    if nat_le (minute_of stamp + minutes) (minute_of last_minute)
    then Some (with_stamp (minute_numbered (minute_of stamp + minutes)) rec) else None

-- the record with its stamp moved on by so many minutes
unfoldable pub moved_on : ℕ → List ℕ → Option (List ℕ)
moved_on minutes rec = moved_by minutes (stamp_in rec) rec
