-- Degree days of a day, from 65 F. (These are this project's own.)
use Rattle.std.specs.Prelude.{ℤ, ◌*ℤ◌, ◌-ℤ◌, pos, int_le, unsigned_abs, Bool, false, List, slice_index_or, Some, None}
use Rattle.std.specs.Int.{int_max}
use Rattle.std.specs.declared.option.Option.{Option}
use Rattle.station_base.specs.declared.row.Row.{Row}
use Rattle.daily_summary.specs.Summary.{rows_of_day, summary_of}
use Rattle.daily_summary.specs.declared.field_sum.FieldSum.{FieldSum}
use Rattle.daily_summary.specs.declared.summary.DaySummary.{DaySummary}
use Rattle.climate_table.specs.declared.totals.Fraction.{Fraction}

-- how far the weighted sum lies below 650 for each second, over the seconds, in tenths of a degree F
abbrev pub heating : FieldSum → Fraction
heating s = record {
  numerator = unsigned_abs (int_max (pos 650 *ℤ pos s.sumtime -ℤ s.wsum) (pos 0));
  denominator = s.sumtime;
}

-- how far it lies above
abbrev pub cooling : FieldSum → Fraction
cooling s = record {
  numerator = unsigned_abs (int_max (s.wsum -ℤ pos 650 *ℤ pos s.sumtime) (pos 0));
  denominator = s.sumtime;
}

-- the sums of the outside temperatures, and of rain
abbrev pub outside : DaySummary → Option FieldSum
outside s = slice_index_or s.fields 0 None

abbrev pub rain : DaySummary → Option FieldSum
rain s = slice_index_or s.fields 3 None

-- the summary of a day
abbrev pub day_summary : List Row → ℤ → DaySummary
day_summary rows day = summary_of (rows_of_day day rows)

-- whether the rain is a click at least
abbrev pub is_wet : Option FieldSum → Bool
is_wet None = false
is_wet (Some s) = int_le (pos 1) s.sum
