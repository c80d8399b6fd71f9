-- The report of all rows of an archive, as one text.
use Rattle.std.specs.Prelude.{◌≡◌, ℕ, pos, List}
use Rattle.command_words.specs.declared.wanted.ReportKind.TheVariants.{Rows}
use Rattle.command_words.specs.declared.wanted.Wanted.{Wanted}
use Rattle.disk_model.specs.Medium.{Medium}
use Rattle.station_base.specs.declared.row.Row.{Row}
use Rattle.weather_book.specs.Stands.{ReadsRows}
use Rattle.weather_reports.specs.Reported.{text_of_lines}
use Rattle.commands.specs.ReportLines.{lines_wanted}

-- a report of the rows of all days, from 1999-12-31 to 2127-12-31
abbrev pub wanting_all_rows : Wanted
wanting_all_rows = record { kind = Rows; first = record { 0 = pos 10956 }; last = record { 0 = pos 57707 } }

-- the text that it prints
abbrev pub all_rows_text : List Row → List ℕ
all_rows_text rows = text_of_lines (lines_wanted wanting_all_rows rows)

-- the disk reads as an archive of which it prints this text
abbrev pub ReportsAs : {D : Type 0} → Medium D → D → List ℕ → Type 0
ReportsAs medium disk text = (rows : List Row) × ReadsRows medium disk rows × (all_rows_text rows ≡ text)
