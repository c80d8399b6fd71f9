-- The rows that have a line.
use Rattle.std.specs.Prelude.{◌≡◌, All, length}
use Rattle.station_base.specs.declared.row.Row.{Row}
use Rattle.station_base.specs.CivilMinute.{IsCivilMinute}
use Rattle.station_base.specs.Period.{IsPeriod}
use Rattle.station_base.specs.Fields.{field_count}
use Rattle.station_base.specs.FieldSet.{AreMissing}
use Rattle.station_base.specs.RowLine.{IsPrintable}

-- A row that has a line: it is of a stamp and a period, each field has a value that can be printed or none, and the
-- fields that limits made missing have none.
pub record IsLineRow (row : Row) : Type 0 where
  pub stamp : IsCivilMinute row.stamp
  pub interval : IsPeriod row.interval
  pub fields : length row.values ≡ field_count
  pub values : All IsPrintable row.values
  pub limited : AreMissing row.limited row.values
