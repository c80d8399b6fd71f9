-- The lines of a report over the rows of some days.
use Rattle.std.specs.Prelude.{ℕ, List}
use Rattle.command_words.specs.declared.wanted.ReportKind.{ReportKind}
use Rattle.command_words.specs.declared.wanted.ReportKind.TheVariants.{Rows, Days, Months}
use Rattle.command_words.specs.declared.wanted.Wanted.{Wanted}
use Rattle.station_base.specs.declared.day.DayNumber.{DayNumber}
use Rattle.station_base.specs.declared.row.Row.{Row}
use Rattle.weather_reports.specs.Report.{day_table_lines, listing_lines, month_table_lines}

-- the lines of a kind of report from a first day to a last one
abbrev pub lines_of_kind : ReportKind → DayNumber → DayNumber → List Row → List (List ℕ)
lines_of_kind Rows first last = listing_lines first last
lines_of_kind Days first last = day_table_lines first last
lines_of_kind Months first last = month_table_lines first last

-- the lines of the report that is asked for
abbrev pub lines_wanted : Wanted → List Row → List (List ℕ)
lines_wanted wanted = lines_of_kind wanted.kind wanted.first wanted.last
