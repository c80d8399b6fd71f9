-- Degree days, as the code has them.
use Rattle.daily_summary.specs.declared.field_sum.FieldSum.{FieldSum}
use Rattle.climate_table.specs.declared.degree_days.DegreeDays.{DegreeDays}
use Rattle.climate_table.specs.Degrees.{cooling, heating}

-- both fractions
abbrev pub degrees_of : FieldSum → DegreeDays
degrees_of s = record { heating = heating s; cooling = cooling s }
