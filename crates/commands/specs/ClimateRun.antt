-- What a run does that prints the climate table of a year.
use Rattle.std.specs.Prelude.{ℕ, List}
use Rattle.run_output.specs.Ended.{Lines}
use Rattle.run_output.specs.Outside.{Meanings}
use Rattle.run_output.specs.Steps.{CommandStep}
use Rattle.run_output.specs.declared.outside.Outside.{Outside}
use Rattle.commands.specs.ReportRun.{reports_over}
use Rattle.commands.specs.declared.archive_report.ArchiveReport.TheVariants.{Climate}

-- The archive of the file of this name is recovered to be read, and the table is written.
abbrev pub tells_climate : {F K L D : Type 0} → Meanings F K L D → List ℕ → ℕ → CommandStep (Outside F K L D) Lines
tells_climate m archive year = reports_over m archive (Climate year)
