-- What a run does that imports the rows of a text: its reading, its one attach, the import, and the line that is given
-- of it.
use Rattle.std.specs.Prelude.{ℕ, ◌≡◌, ◌≤◌, true, List, ◌++◌, codes, decimal, length, Ok, Err, IsOk}
use Rattle.std.specs.declared.result.Result.{Result}
use Rattle.archive_import.specs.ImportsText.{ImportsText}
use Rattle.archive_import.specs.declared.end.ImportEnd.{ImportEnd}
use Rattle.archive_import.specs.declared.end.ImportEnd.TheVariants as imported
use Rattle.archive_import.specs.declared.end.Imported.{Imported}
use Rattle.disk_model.specs.Medium.{Medium}
use Rattle.row_text.specs.FaultKinds.{kind_of_fault}
use Rattle.row_text.specs.RowsOfText.{row_count_of, rows_of_text}
use Rattle.row_text.specs.declared.bad_line.BadLine.{BadLine}
use Rattle.run_output.specs.Calls.{attaches}
use Rattle.run_output.specs.Ended.{Lines, output_of}
use Rattle.run_output.specs.Output.{Output, disk_fault, no_memory}
use Rattle.run_output.specs.Outside.{Meanings, over_disk, over_files}
use Rattle.run_output.specs.Reading.{reads}
use Rattle.run_output.specs.Steps.{CommandStep, then}
use Rattle.run_output.specs.declared.outside.Outside.{Outside}
use Rattle.run_output.specs.declared.status.Status.TheVariants as ends
use Rattle.station_io.specs.Files.{most_bytes}
use Rattle.commands.specs.Recovery.{bad_archive, damaged_line, not_archive_line, old_archive}

-- `row line`, the number of the faulty line, `fault` and the kind of its fault
abbrev pub row_fault_line : BadLine → List ℕ
row_fault_line bad =
    codes "row line " ++ decimal bad.line ++ codes " fault " ++ decimal (kind_of_fault bad.fault) ++ codes "\n"

-- the line of a text that is not one of rows
abbrev pub bad_rows : BadLine → Output
bad_rows bad = record { text = row_fault_line bad; status = ends.BadRows }

-- how many rows a text has, or the line that says why it is not one of rows
abbrev pub rows_judged : Result ℕ BadLine → Result ℕ Output
rows_judged (Ok count) = Ok count
rows_judged (Err bad) = Err (bad_rows bad)

-- a text of rows is judged, without a call
abbrev pub judges_rows : {W : Type 0} → List ℕ → CommandStep W ℕ
judges_rows text old result new = (result ≡ rows_judged (row_count_of (rows_of_text text))) × (new ≡ old)

-- `imported`, how many rows were appended, how many were passed over, and how many the archive has
abbrev pub imported_line : Imported → List ℕ
imported_line done =
    codes "imported " ++ decimal done.added ++ codes " passed " ++ decimal done.passed ++ codes " rows "
    ++ decimal done.rows
    ++ codes "\n"

-- the line of an import that ended so, and the status
abbrev pub import_output : ImportEnd → Output
import_output (imported.Done done) = record { text = imported_line done; status = ends.Done }
import_output imported.Full = record { text = codes "archive full\n"; status = ends.ArchiveFull }
import_output (imported.NotArchive bytes) = bad_archive (not_archive_line bytes)
import_output imported.OldVersion = old_archive
import_output (imported.Damaged place) = bad_archive (damaged_line place)
import_output imported.Fault = disk_fault
import_output imported.OutOfMemory = no_memory

-- The rows of a text were imported into the archive on the disk, and what came of that is given.
pub record imports {D : Type 0} (medium : Medium D) (text : List ℕ) (old : D) (result : Result Lines Output) (new : D)
    : Type 0 where
  pub end : ImportEnd
  pub did : ImportsText medium end text old new
  pub given : output_of result ≡ import_output end

-- The file of the one name is read and judged. Then that of the other name is attached, made where there is none, and
-- the rows of the text are imported into it.
abbrev pub imports_on : {F K L D : Type 0} → Meanings F K L D → List ℕ → List ℕ → CommandStep (Outside F K L D) Lines
imports_on m rows archive =
    then (over_files (reads m.shelf rows)) (λ file.
    then (judges_rows file.items) (λ _.
    then (over_disk (attaches m.medium archive true)) (λ _.
    over_disk (imports m.medium file.items))))

-- a text of rows that is not too long
abbrev pub IsTextOfRows : List ℕ → Type 0
IsTextOfRows text = (length text ≤ most_bytes) × IsOk (rows_of_text text)
