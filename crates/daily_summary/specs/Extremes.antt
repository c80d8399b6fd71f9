-- The extremes of a field over rows: what they are, and when they were first reached.
use Rattle.std.specs.Prelude.{ℕ, ℤ, ◌≡◌, ◌≤◌, All, IfSome, List, None, Some}
use Rattle.std.specs.Int.Signed.{◌≤ℤ◌}
use Rattle.std.specs.List.{Contains}
use Rattle.station_base.specs.CivilMinute.{CivilMinute, minute_of}
use Rattle.station_base.specs.declared.row.Row.{Row}
use Rattle.station_base.specs.LastStamp.{Rises}
use Rattle.daily_summary.specs.Readings.{field_value}

-- each row's stamp exceeds that of the row before it
abbrev pub RowsRise : List Row → Type 0
RowsRise rows = Rises (λ row. Some row.stamp) None rows

-- one of the rows has this value at this stamp
pub record IsReached (field : ℕ) (rows : List Row) (value : ℤ) (stamp : CivilMinute) : Type 0 where
  pub row : Row
  pub there : Contains rows row
  pub value_is : field_value field row ≡ Some value
  pub stamp_is : row.stamp ≡ stamp

-- no row has the value before this stamp
abbrev pub IsFirst : ℕ → List Row → ℤ → CivilMinute → Type 0
IsFirst field rows value stamp =
    All (λ row. field_value field row ≡ Some value → minute_of stamp ≤ minute_of row.stamp) rows

-- the value is the least of the rows, and none of them has it before this stamp
pub record IsLeastAt (field : ℕ) (rows : List Row) (value : ℤ) (stamp : CivilMinute) : Type 0 where
  pub reached : IsReached field rows value stamp
  pub least : All (λ row. IfSome (field_value field row) (λ other. value ≤ℤ other)) rows
  pub first : IsFirst field rows value stamp

-- the value is the greatest of the rows, and none of them has it before this stamp
pub record IsGreatestAt (field : ℕ) (rows : List Row) (value : ℤ) (stamp : CivilMinute) : Type 0 where
  pub reached : IsReached field rows value stamp
  pub greatest : All (λ row. IfSome (field_value field row) (λ other. other ≤ℤ value)) rows
  pub first : IsFirst field rows value stamp
