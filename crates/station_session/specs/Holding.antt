-- What becomes of a book, its disk and its marks as batches are handed over.
use Rattle.std.specs.Prelude.{◌≡◌, ◌≢◌, ℕ, ◌+◌, ◌*◌, ◌≤◌, List, ◌++◌, length}
use Rattle.disk_model.specs.Medium.{Medium}
use Rattle.disk_model.specs.Disk.{LeavesOnly}
use Rattle.station_base.specs.declared.row.Row.{Row}
use Rattle.settings_file.specs.StationSettings.{StationSettings}
use Rattle.weather_book.specs.declared.book.Book.{Book}
use Rattle.weather_book.specs.Book.{BookStandsFor, most_rows_of}
use Rattle.gated_log.specs.Appending.{ByGate}
use Rattle.gated_log.specs.Calls.{changes_in_a_batch, gate_change}
use Rattle.packed_rows.specs.Rows.{slot_total}
use Rattle.weather_book.specs.Stands.{HasRows, StandsOn, StandsToReadOn}
use Rattle.causes.specs.declared.stored.Stored.TheVariants as stored
use Rattle.dmpaft_pump.specs.Keeper.{Handed}
use Rattle.gated_log.specs.Layout.{slot_size}
use Rattle.station_session.specs.declared.report.Mark.{Mark}
use Rattle.station_session.specs.Records.{stored_rows}
use Rattle.station_session.specs.Batches.{kept_records, all_records, kept_count, last_answer}
use Rattle.station_session.specs.Batches.{Fit, changes_for, ChangesAreBegun}
use Rattle.station_session.specs.Images.{HasWhole}
use Rattle.station_session.specs.Report.{marks_for}
use Rattle.station_session.specs.Marks.{MarksHold}

-- A book, the disk that it is on, and the marks noted.
pub record Holding (D : Type 0) : Type 0 where
  pub book : Book
  pub disk : D
  pub marks : List Mark

-- a book, its disk and its marks as one value
abbrev pub holding : {D : Type 0} → Book → D → List Mark → Holding D
holding book disk marks = record { book = book; disk = disk; marks = marks }

-- the rows after these batches
abbrev pub rows_after_batches : StationSettings → List Row → Handed → List Row
rows_after_batches settings rows steps = rows ++ stored_rows settings (kept_records steps)

-- A book of these rows was given these batches: the rows of those that were kept are its rows then, in order and behind
-- the old ones.
pub record Stores {D : Type 0} (medium : Medium D)
    (settings : StationSettings) (rows : List Row) (steps : Handed) (old new : Holding D) : Type 0 where
  pub fit : Fit (most_rows_of old.book) (length rows) steps
  pub stands_for : BookStandsFor new.book (rows_after_batches settings rows steps)
  -- how many changes were begun for a batch that met a disk fault
  pub failed : ℕ
  pub begun : ChangesAreBegun (last_answer steps) failed
  pub moved : medium.moment new.disk ≡ medium.moment old.disk + (changes_in_a_batch * kept_count steps + failed)
  pub went_on : medium.went old.disk (changes_for settings failed rows steps) new.disk
  -- a mark for each batch that was kept
  pub noted : new.marks ≡ old.marks ++ marks_for (medium.moment old.disk) (length rows) steps
  -- a crash leaves the rows of a whole number of batches, and of one that met a disk fault only where the change that
  -- opens its gate was begun
  pub images : StandsOn medium old.book old.disk rows
      → LeavesOnly medium (HasWhole settings (gate_change ≤ failed) rows steps) old.disk new.disk
  -- after a disk fault the gate behind the rows tells which of the two a crash now leaves
  pub gate : last_answer steps ≡ stored.DiskFault → StandsOn medium old.book old.disk rows
      → ByGate medium (gate_change ≤ failed) (slot_size * (slot_total (rows_after_batches settings rows steps) + 1))
      (HasRows (rows_after_batches settings rows steps))
      (HasRows (rows ++ stored_rows settings (all_records steps))) new.disk
  pub marked : StandsOn medium old.book old.disk rows → MarksHold medium old.disk rows old.marks
      → MarksHold medium new.disk (rows_after_batches settings rows steps) new.marks
  -- without a disk fault the rows that were kept stand on the disk, behind the old ones
  pub stands : last_answer steps ≢ stored.DiskFault → StandsOn medium old.book old.disk rows
      → StandsOn medium new.book new.disk (rows_after_batches settings rows steps)
  -- after a disk fault the rows can still be read
  pub still : last_answer steps ≡ stored.DiskFault → StandsOn medium old.book old.disk rows
      → StandsToReadOn medium new.book new.disk (rows_after_batches settings rows steps)
