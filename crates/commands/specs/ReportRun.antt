-- What a run does that reports on an archive: the recovery of the archive, the reads, and what is written.
use Rattle.std.specs.Prelude.{ℕ, ◌≡◌, List, [], IsSomeAnd}
use Rattle.std.specs.declared.result.Result.{Result}
use Rattle.command_words.specs.declared.wanted.Wanted.{Wanted}
use Rattle.disk_model.specs.Medium.{Medium}
use Rattle.packed_rows.specs.Rows.{holds, rows_of}
use Rattle.run_output.specs.Ended.{Lines, output_of}
use Rattle.run_output.specs.Output.{Output, disk_fault, write_fault}
use Rattle.run_output.specs.Outside.{Meanings}
use Rattle.run_output.specs.Steps.{CommandStep, then}
use Rattle.run_output.specs.declared.outside.Outside.{Outside}
use Rattle.run_output.specs.declared.status.Status.TheVariants as ends
use Rattle.station_base.specs.declared.row.Row.{Row}
use Rattle.weather_book.specs.Stands.{ReadsRows, StandsToReadOn}
use Rattle.weather_book.specs.declared.book.Book.{Book}
use Rattle.weather_reports.specs.Made.{MakesReport}
use Rattle.weather_reports.specs.declared.end.ReportEnd.{ReportEnd}
use Rattle.weather_reports.specs.declared.end.ReportEnd.TheVariants as report_end
use Rattle.commands.specs.ArchiveReport.{lines_of_report}
use Rattle.commands.specs.Recovery.{reads_archive}
use Rattle.commands.specs.declared.archive_report.ArchiveReport.{ArchiveReport}
use Rattle.commands.specs.declared.archive_report.ArchiveReport.TheVariants.{OfDays}

-- what is left to be written after a report that ended so: the line of a disk fault, where there was one
abbrev pub report_given : ReportEnd → Output
report_given report_end.Done = record { text = []; status = ends.Done }
report_given report_end.DiskFault = disk_fault
report_given report_end.WriteFault = write_fault

-- The book stands for the rows of the archive, which can be read there, and the report of these rows was made.
pub record reports {F K L D : Type 0} (m : Meanings F K L D) (report : ArchiveReport) (book : Book)
    (old : Outside F K L D) (result : Result Lines Output) (new : Outside F K L D) : Type 0 where
  pub rows : List Row
  pub stands : StandsToReadOn m.medium book old.disk rows
  pub archive : ReadsRows m.medium old.disk rows
  pub end : ReportEnd
  pub made : MakesReport m.outlet m.medium book (lines_of_report report) end old.disk new.disk old.out new.out
  pub given : output_of result ≡ report_given end
  pub alone : new ≡ record old { disk = new.disk; out = new.out }

-- The archive of the file of this name is recovered to be read, and the lines of the report are written.
abbrev pub reports_over : {F K L D : Type 0} → Meanings F K L D → List ℕ → ArchiveReport
    → CommandStep (Outside F K L D) Lines
reports_over m archive report = then (reads_archive m archive) (λ book. reports m report book)

-- The archive of the file of this name is recovered to be read, and what is asked for of some days is written.
abbrev pub reports_on : {F K L D : Type 0} → Meanings F K L D → List ℕ → Wanted → CommandStep (Outside F K L D) Lines
reports_on m archive wanted = reports_over m archive (OfDays wanted)

-- the bytes are an archive with rows, or with none
abbrev pub FileHoldsRows : List ℕ → Type 0
FileHoldsRows file = (rows : List Row) × (rows_of file ≡ holds rows)

-- the disk tells its bytes, which are an archive
abbrev pub TellsArchive : {D : Type 0} → Medium D → D → Type 0
TellsArchive medium disk = IsSomeAnd (medium.seen disk) FileHoldsRows
