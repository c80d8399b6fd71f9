-- The interval of the last entry.
use Rattle.std.specs.Prelude.{ℕ, ◌≡◌, List, Some, None}
use Rattle.station_base.specs.CivilMinute.{IsCivilMinute, minute_of}
use Rattle.soft_record.specs.declared.entry.Entry.{Entry}
use Rattle.soft_record.specs.declared.open_interval.OpenInterval.{OpenInterval}
use Rattle.soft_record.specs.Entry.{interval_end}
use Rattle.soft_record.specs.Interval.{interval_of, last_entry}
use Rattle.soft_record.specs.Sums.{AreSumsOf}

-- its end, its last entry, and what its entries come to
pub record IntervalIsOpen (period : ℕ) (entries : List Entry) (o : OpenInterval) : Type 0 where
  pub last : last_entry None entries ≡ Some o.last
  pub civil : IsCivilMinute o.end
  pub end : minute_of o.end ≡ interval_end period o.last
  pub sums : AreSumsOf (interval_of period (minute_of o.end) entries) o.sums
