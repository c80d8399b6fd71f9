-- The calls of an adding on its disk.
use Rattle.std.specs.Prelude.{◌≡◌, ℕ, zero, suc, ◌+◌, ◌-◌, ◌*◌, ◌<◌, ◌≤◌, Bool, true}
use Rattle.std.specs.Prelude.{false, List, [], ◌∷◌, ◌++◌, length, take, Ok, Err}
use Rattle.std.specs.declared.result.Result.{Result}
use Rattle.disk_model.specs.Medium.{Medium}
use Rattle.disk_model.specs.Calls.{DiskCall}
use Rattle.disk_model.specs.declared.disk.Disked.{Disked}
use Rattle.disk_model.specs.declared.disk.Disked.TheVariants.{Done, Failed}
use Rattle.gated_log.specs.Calls.{any_failed, changes, append_changes, reads_fit, recovery_changes, up_to}
use Rattle.gated_log.specs.Layout.{slot_size}
use Rattle.station_base.specs.declared.row.Row.{Row}
use Rattle.packed_rows.specs.Adding.{rows_in_a_batch}
use Rattle.packed_rows.specs.Rows.{slot_total}
use Rattle.weather_book.specs.declared.book.Book.{Book}
use Rattle.weather_book.specs.Book.{slots_of_book}
use Rattle.batch_adding.specs.declared.adding.BatchEnd.{BatchEnd}
use Rattle.batch_adding.specs.declared.adding.BatchEnd.TheVariants.{Fault}
use Rattle.batch_adding.specs.declared.opening.NotOpened.{NotOpened}
use Rattle.batch_adding.specs.declared.opening.NotOpened.TheVariants as not_opened

-- where so many slots end in their file, and 0 where there is none
abbrev pub slots_end : ℕ → ℕ
slots_end zero = 0
slots_end (suc n) = slot_size * (suc n + 1)

-- how many slots an archive has that was opened
abbrev pub slots_opened : {E : Type 0} → Result Book E → ℕ
slots_opened (Ok book) = slots_of_book book
slots_opened (Err end) = 0

-- a call failed, so that the archive was not opened
abbrev pub is_opening_fault : NotOpened → Bool
is_opening_fault not_opened.Fault = true
is_opening_fault other = false

-- a call failed as an archive was opened to be added to
abbrev pub opening_failed : Result Book NotOpened → Bool
opening_failed (Ok book) = false
opening_failed (Err why) = is_opening_fault why

-- how the last of some changes was answered, where one of them failed or none did
abbrev pub failed_answer : Bool → Disked
failed_answer true = Failed
failed_answer false = Done

-- a call failed as a batch was added
abbrev pub add_failed : BatchEnd → Bool
add_failed Fault = true
add_failed other = false

-- the changes for the rows of a batch behind others: those of one append
abbrev pub changes_of_batch : List Row → List Row → List (Disked → DiskCall)
changes_of_batch old new =
    append_changes (slot_size * (slot_total old + 1)) (slot_size * (slot_total (old ++ new) - slot_total old))

-- the changes for batches behind some rows, one after another
abbrev pub changes_of_batches : List Row → List (List Row) → List (Disked → DiskCall)
changes_of_batches mine [] = []
changes_of_batches mine (batch ∷ more) = changes_of_batch mine batch ++ changes_of_batches (mine ++ batch) more

-- the rows of batches
abbrev pub rows_of_batches : List (List Row) → List Row
rows_of_batches [] = []
rows_of_batches (batch ∷ more) = batch ++ rows_of_batches more

-- each batch has as many rows as it may, and the last one at least one
abbrev pub AreBatches : List (List Row) → Type 0
AreBatches [] = Unit {0}
AreBatches (batch ∷ []) = (1 ≤ length batch) × (length batch ≤ rows_in_a_batch)
AreBatches (batch ∷ next ∷ more) = (length batch ≡ rows_in_a_batch) × AreBatches (next ∷ more)

-- Changes alone led from the one disk to the other: those for batches behind these rows, in order and up to the first
-- that failed; whether one did is told. The rows of the batches are as is said.
pub record AddsBatches {D : Type 0} (medium : Medium D) (mine : List Row) (failed : Bool) (are : List Row → Type 0)
    (old new : D) : Type 0 where
  pub batches : List (List Row)
  pub sizes : AreBatches batches
  pub begun : medium.moment old ≤ medium.moment new
  pub by : medium.went old
      (up_to (take (medium.moment new - medium.moment old) (changes_of_batches mine batches)) (failed_answer failed))
      new
  pub fails : any_failed
      (up_to (take (medium.moment new - medium.moment old) (changes_of_batches mine batches))
      (failed_answer failed)) ≡ failed
  pub rows_are : are (rows_of_batches batches)

-- The calls on the disk of an archive to which rows are added. The changes are those of a recovery, and then those for
-- batches behind the rows that it found, each in order and up to the first that failed. The rows are as is said where a
-- batch was begun. Each read ends within the length that was measured last, and whether a call failed is told.
pub record ToCalls {D : Type 0} (medium : Medium D) (failed : Bool) (are : List Row → List Row → Type 0) (old new : D)
    : Type 0 where
  pub calls : List DiskCall
  pub by : medium.went old calls new
  pub opening : ℕ
  pub opened : Disked
  pub mine : List Row
  pub batches : List (List Row)
  pub sizes : AreBatches batches
  pub begun : medium.moment old + opening ≤ medium.moment new
  pub changes_are : changes calls ≡ up_to (take opening recovery_changes) opened ++ up_to
      (take (medium.moment new - (medium.moment old + opening)) (changes_of_batches mine batches))
      (failed_answer failed)
  pub rows_are : 0 < length batches → are mine (rows_of_batches batches)
  pub fits : reads_fit 0 calls
  pub fails : any_failed calls ≡ failed
