-- The rows that an import adds, what it leaves, and why it ended so.
use Rattle.std.specs.Prelude.{◌≡◌, ℕ, ◌+◌, ◌<◌, ◌≤◌, List, [], ◌++◌, length, filter}
use Rattle.std.specs.declared.option.Option.{Option}
use Rattle.causes.specs.Lists.{IsFrontOf}
use Rattle.causes.specs.Told.{WhereTold}
use Rattle.disk_model.specs.Disk.{LeavesOnly}
use Rattle.disk_model.specs.Medium.{Medium}
use Rattle.gated_log.specs.Start.{MovedToWrite}
use Rattle.station_base.specs.CivilMinute.{CivilMinute}
use Rattle.station_base.specs.Limits.{most_rows}
use Rattle.station_base.specs.declared.row.Row.{Row}
use Rattle.packed_rows.specs.Rising.{last_row_stamp, stamp_exceeds}
use Rattle.packed_rows.specs.Rows.{holds, rows_of}
use Rattle.weather_book.specs.Stands.{NowHasRows, ReadsRows}
use Rattle.batch_adding.specs.Adding.{HasSome, changes_for_rows}
use Rattle.batch_adding.specs.Calls.{ToCalls}
use Rattle.batch_adding.specs.Opening.{CanBeAddedTo, CannotBeAddedTo}
use Rattle.batch_adding.specs.declared.opening.NotOpened.TheVariants as to_open
use Rattle.archive_import.specs.Ends.{is_import_fault}
use Rattle.archive_import.specs.declared.end.ImportEnd.{ImportEnd}
use Rattle.archive_import.specs.declared.end.ImportEnd.TheVariants.{Done, Full, NotArchive, OldVersion, Damaged, Fault}
use Rattle.archive_import.specs.declared.end.ImportEnd.TheVariants.{OutOfMemory}
use Rattle.archive_import.specs.declared.end.Imported.{Imported}

-- the rows whose stamps exceed this one
abbrev pub later_rows : Option CivilMinute → List Row → List Row
later_rows last rows = filter (λ row. stamp_exceeds last row.stamp) rows

-- the rows of a text that an archive of these rows gets
abbrev pub rows_to_import : List Row → List Row → List Row
rows_to_import mine rows = later_rows (last_row_stamp mine) rows

-- the rows that may be added by an import that ends so
abbrev pub may_add : ImportEnd → List Row → List Row → List Row
may_add (Done done) mine rows = rows_to_import mine rows
may_add Fault mine rows = rows_to_import mine rows
may_add OutOfMemory mine rows = rows_to_import mine rows
may_add other mine rows = []

-- so many rows of the text are later than those of the archive, so many are not, and so many are there now
pub record Imports (done : Imported) (mine rows : List Row) : Type 0 where
  pub added : done.added ≡ length (rows_to_import mine rows)
  pub passed : done.passed + done.added ≡ length rows
  pub held : done.rows ≡ length mine + done.added
  pub few : done.rows ≤ most_rows

-- Why an import of these rows ended so: the file refuses, the archive would have too many rows, or so many were added.
-- A fault, or want of memory, says nothing of the file.
abbrev pub ImportAnswers : ImportEnd → List Row → List ℕ → Type 0
ImportAnswers (Done done) rows to = (mine : List Row) × CanBeAddedTo to mine × Imports done mine rows
ImportAnswers Full rows to =
    (mine : List Row) × CanBeAddedTo to mine × (most_rows < length mine + length (rows_to_import mine rows))
ImportAnswers (NotArchive bytes) rows to = CannotBeAddedTo (to_open.NotArchive bytes) to
ImportAnswers OldVersion rows to = CannotBeAddedTo to_open.OldVersion to
ImportAnswers (Damaged place) rows to = CannotBeAddedTo (to_open.Damaged place) to
ImportAnswers Fault rows to = Unit {0}
ImportAnswers OutOfMemory rows to = Unit {0}

-- The changes are those of one recovery and of added batches, which are the later rows of the text, in order. With
-- another end than Done, Fault or OutOfMemory they are those of the recovery alone.
abbrev pub AddsLater : {E : Type 0} → Medium E → ImportEnd → List Row → E → E → Type 0
AddsLater medium end rows to to' = ToCalls medium (is_import_fault end) (λ mine next. WhereTold (medium.seen to) (λ old.
    (rows_of old ≡ holds mine) × IsFrontOf next (may_add end mine rows))) to to'

-- where each image at the start has some rows, each image since then has these, and then none or more of the later rows
-- of the text
abbrev pub LeavesLater : {E : Type 0} → Medium E → ImportEnd → List Row → E → E → Type 0
LeavesLater medium end rows to to' = WhereTold (medium.seen to) (λ _. (mine : List Row) → NowHasRows medium to mine
    → LeavesOnly medium (HasSome mine (may_add end mine rows)) to to')

-- How far the moment comes: by the changes of a recovery, and by those of the batches. A file that is refused is only
-- synced, since it is not made anew. (An import that stops says less.)
abbrev pub ImportMoves : ImportEnd → ℕ → ℕ → List ℕ → Type 0
ImportMoves (Done done) old new to =
    (opened : ℕ) × MovedToWrite old opened to × (new ≡ opened + changes_for_rows done.added)
ImportMoves Full old new to = MovedToWrite old new to
ImportMoves (NotArchive bytes) old new to = MovedToWrite old new to
ImportMoves OldVersion old new to = MovedToWrite old new to
ImportMoves (Damaged place) old new to = MovedToWrite old new to
ImportMoves Fault old new to = Unit {0}
ImportMoves OutOfMemory old new to = Unit {0}

-- The disk has just the rows that the file had, and then the later ones of the text: what it reads does, and so does
-- each image that a crash now may leave.
pub record IsImported {E : Type 0} (medium : Medium E) (rows : List Row) (disk : E) (to : List ℕ) : Type 0 where
  pub mine : List Row
  pub held_them : rows_of to ≡ holds mine
  pub reads : ReadsRows medium disk (mine ++ rows_to_import mine rows)
  pub crash : NowHasRows medium disk (mine ++ rows_to_import mine rows)
