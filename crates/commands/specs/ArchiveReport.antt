-- The reports over the rows of an archive.
use Rattle.std.specs.Prelude.{ℕ, List}
use Rattle.std.specs.Int.{IsInRange}
use Rattle.climate_table.specs.Table.{table_lines}
use Rattle.station_base.specs.declared.row.Row.{Row}
use Rattle.commands.specs.ReportLines.{lines_wanted}
use Rattle.commands.specs.declared.archive_report.ArchiveReport.{ArchiveReport}
use Rattle.commands.specs.declared.archive_report.ArchiveReport.TheVariants.{OfDays, Climate}

-- the lines of a report
abbrev pub lines_of_report : ArchiveReport → List Row → List (List ℕ)
lines_of_report (OfDays wanted) = lines_wanted wanted
lines_of_report (Climate year) = table_lines year

-- its year, if it is of one, is from 1999 to 2127
abbrev pub ReportCanBeMade : ArchiveReport → Type 0
ReportCanBeMade (OfDays wanted) = Unit {0}
ReportCanBeMade (Climate year) = IsInRange 1999 2127 year
