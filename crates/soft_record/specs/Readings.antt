-- Numbers that a record can hold.
use Rattle.std.specs.Prelude.{ℤ, ◌≡◌, ◌≤◌, All, IfSome, unsigned_abs}
use Rattle.std.specs.declared.option.Option.{Option}
use Rattle.station_base.specs.RowLine.{IsValueWithin}
use Rattle.station_base.specs.declared.row.Row.{Row}

-- no number, or one of two bytes at most
abbrev pub IsPacketReading : Option ℤ → Type 0
IsPacketReading number = IfSome number (λ n. unsigned_abs n ≤ 65535)

-- each value of the row is a number of two bytes at most, and limits made none of them missing
pub record HasReadings (row : Row) : Type 0 where
  pub values : All (IsValueWithin 65535) row.values
  pub unlimited : row.limited ≡ 0
