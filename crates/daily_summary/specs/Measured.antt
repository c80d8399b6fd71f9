-- Rows that a station can have measured.
use Rattle.std.specs.Prelude.{All}
use Rattle.station_base.specs.CivilMinute.{IsCivilMinute}
use Rattle.station_base.specs.Period.{IsPeriod}
use Rattle.station_base.specs.RowLine.{IsPrintable}
use Rattle.station_base.specs.declared.row.Row.{Row}

-- the calendar has its stamp, a console has its interval, and each value is within 2,000,000 either way
pub record IsMeasured (row : Row) : Type 0 where
  pub stamp : IsCivilMinute row.stamp
  pub interval : IsPeriod row.interval
  pub values : All IsPrintable row.values
