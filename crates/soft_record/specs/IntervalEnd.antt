-- Where the interval of an entry ends. (This project's own.)
use Rattle.std.specs.Prelude.{ℕ, ◌≡◌, ◌≤◌, ◌<◌, ◌+◌, ◌*◌, ◌%◌}
use Rattle.station_base.specs.CivilMinute.{CivilMinute, minute_of}
use Rattle.soft_record.specs.declared.entry.Entry.{Entry}
use Rattle.soft_record.specs.Entry.{moment}

-- how many seconds the longest period has, which is two hours
abbrev pub longest : ℕ
longest = 7200

-- the minute is not before the entry, and less than the longest period behind it
pub record IntervalEndIsNear (e : Entry) (end : CivilMinute) : Type 0 where
  pub reached : moment e ≤ 60 * minute_of end
  pub near : 60 * minute_of end < moment e + longest

-- a full minute that is not before the entry, and whose number in its day is a multiple of the period
pub record IntervalCanEnd (period : ℕ) (e : Entry) (minute : ℕ) : Type 0 where
  pub reached : moment e ≤ 60 * minute
  pub whole : minute % 1440 % period ≡ 0

-- the earliest full minute at which the interval of the entry can end
pub record IsEarliest (period : ℕ) (e : Entry) (minute : ℕ) : Type 0 where
  pub ends : IntervalCanEnd period e minute
  pub first : (other : ℕ) → IntervalCanEnd period e other → minute ≤ other
