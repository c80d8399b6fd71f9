-- How the rows of a file of pages are written.
use Rattle.std.specs.Prelude.{ℕ}
use Rattle.settings_file.specs.StationSettings.{StationSettings}

-- by stamp and outside temperature, or by the row line of the row that some settings correct
pub data RowStyle : Type 0 where
  short : RowStyle
  corrected : StationSettings → RowStyle

-- the minutes between two records; the short style does not write them
abbrev pub style_period : RowStyle → ℕ
style_period short = 5
style_period (corrected settings) = settings.period
