-- A climate table: each fault has a cause, and over an archive only a fault or want of memory keeps it from being written.
use Rattle.std.proofs.Common.{ℕ, List}
use Rattle.std.specs.declared.result.Result.{Result}
use Rattle.run_output.specs.Ended.{Lines, output_of}
use Rattle.run_output.specs.Output.{Output}
use Rattle.run_output.specs.Outside.{Meanings}
use Rattle.run_output.specs.declared.outside.Outside.{Outside}
use Rattle.run_output.proofs.Causes.{Causes}
use Rattle.commands.specs.ClimateRun.{tells_climate}
use Rattle.commands.specs.ReportRun.{TellsArchive}
use Rattle.commands.specs.declared.archive_report.ArchiveReport.TheVariants.{Climate}
use Rattle.commands.proofs.ReportLaws.{IsReported, reports_over_causes, reports_over_complete}

-- a table has causes
pub tells_climate_causes : {F K L D : Type 0} (m : Meanings F K L D) (archive : List ℕ) (year : ℕ) → Causes m (tells_climate m archive year)
tells_climate_causes m archive year = reports_over_causes m archive (Climate year)

-- over an archive the table is written, unless a disk fault, a write fault or want of memory keeps it from that
pub tells_climate_complete : {F K L D : Type 0} (m : Meanings F K L D) (archive : List ℕ) (year : ℕ) (old new : Outside F K L D)
    (ended : Result Lines Output) → TellsArchive m.medium old.disk → tells_climate m archive year old ended new → IsReported (output_of ended).status
tells_climate_complete m archive year = reports_over_complete m archive (Climate year)
