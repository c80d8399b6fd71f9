-- What an import does to its disk, and how it ends: its clauses together, for what stands on it.
use Rattle.std.specs.Prelude.{◌≡◌, ℕ, List}
use Rattle.causes.specs.Told.{WhereTold}
use Rattle.disk_model.specs.Disk.{BeginsChanges, Faults}
use Rattle.disk_model.specs.Medium.{Medium}
use Rattle.batch_adding.specs.Adding.{changes_to_fill}
use Rattle.archive_import.specs.Importing.{AddsLater, ImportAnswers, ImportMoves, IsImported, LeavesLater}
use Rattle.archive_import.specs.Texts.{text_rows}
use Rattle.archive_import.specs.declared.end.ImportEnd.{ImportEnd}
use Rattle.archive_import.specs.declared.end.ImportEnd.TheVariants.{Done, Fault}
use Rattle.archive_import.specs.declared.end.Imported.{Imported}

-- An import of the rows of a text into the archive on the disk ended so.
pub record ImportsText {E : Type 0} (medium : Medium E) (end : ImportEnd) (text : List ℕ) (to to' : E) : Type 0 where
  pub answers : WhereTold (medium.seen to) (ImportAnswers end (text_rows text))
  pub fault : Faults medium to to' (end ≡ Fault)
  pub begun : BeginsChanges medium changes_to_fill to to'
  pub went : AddsLater medium end (text_rows text) to to'
  pub moved : WhereTold (medium.seen to) (ImportMoves end (medium.moment to) (medium.moment to'))
  pub images : LeavesLater medium end (text_rows text) to to'
  pub imported : (done : Imported) → end ≡ Done done
      → WhereTold (medium.seen to) (IsImported medium (text_rows text) to')
