-- The lines of a climate table. (These are this project's texts.)
use Rattle.std.specs.Prelude.{ℕ, ℤ, pos, List, ◌++◌, codes, option_map, Some, None}
use Rattle.std.specs.declared.option.Option.{Option}
use Rattle.std.specs.Fmt.{decimal, signed_decimal}
use Rattle.station_base.specs.CivilMinute.{CivilMinute, archive_day_of}
use Rattle.station_base.specs.DayText.{day_text}
use Rattle.daily_summary.specs.Summary.{tenths}
use Rattle.daily_summary.specs.declared.field_sum.FieldSum.{FieldSum}
use Rattle.climate_table.specs.declared.climate_summary.ClimateSummary.{ClimateSummary}
use Rattle.climate_table.specs.declared.degree_days.DegreeDays.{DegreeDays}
use Rattle.climate_table.specs.declared.totals.Fraction.{Fraction}
use Rattle.climate_table.specs.Degrees.{outside, rain}

-- `N/T`
abbrev pub fraction_text : Fraction → List ℕ
fraction_text f = decimal f.numerator ++ codes "/" ++ decimal f.denominator

-- `degree YYYY-MM-DD hdd N/T cdd N/T`
abbrev pub degree_line : ℤ → DegreeDays → List ℕ
degree_line day d =
    codes "degree " ++ day_text day ++ codes " hdd " ++ fraction_text d.heating
    ++ codes " cdd " ++ fraction_text d.cooling ++ codes "\n"

-- a number, or a dash
abbrev pub number_or_dash : Option ℤ → List ℕ
number_or_dash None = codes "-"
number_or_dash (Some n) = signed_decimal n

-- a value and the archive day of its stamp
abbrev pub extreme_text : ℤ → CivilMinute → List ℕ
extreme_text value at = signed_decimal value ++ codes " at " ++ day_text (pos (archive_day_of at))

-- `high H at DAY low L at DAY`
abbrev pub extremes_text : Option FieldSum → List ℕ
extremes_text None = codes " high - at - low - at -"
extremes_text (Some s) =
    codes " high " ++ extreme_text s.greatest s.greatest_at ++ codes " low " ++ extreme_text s.least s.least_at

-- the sum of rain, or a dash
abbrev pub rain_text : Option FieldSum → List ℕ
rain_text rain = number_or_dash (option_map (λ (s : FieldSum). s.sum) rain)

-- `climate NAME days N mean M high H at DAY low L at DAY rain R wet W hdd X cdd Y`
unfoldable pub climate_line : List ℕ → ClimateSummary → List ℕ
climate_line name c =
    codes "climate " ++ name ++ codes " days " ++ decimal c.days
    ++ codes " mean " ++ number_or_dash (option_map tenths (outside c.sums)) ++ extremes_text (outside c.sums)
    ++ codes " rain " ++ rain_text (rain c.sums) ++ codes " wet " ++ decimal c.wet
    ++ codes " hdd " ++ decimal c.heating ++ codes " cdd " ++ decimal c.cooling ++ codes "\n"
