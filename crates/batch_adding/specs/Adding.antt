-- The rows that are added to an archive, and what a crash may leave of them.
use Rattle.std.specs.Prelude.{◌≡◌, ◌⊎◌, ℕ, ◌+◌, ◌-◌, ◌*◌, ◌/◌, ◌<◌, ◌≤◌, List, ◌++◌, take}
use Rattle.gated_log.specs.Calls.{changes_in_a_batch, most_recovery_changes}
use Rattle.station_base.specs.Limits.{most_rows}
use Rattle.station_base.specs.declared.row.Row.{Row}
use Rattle.packed_rows.specs.Adding.{rows_in_a_batch}
use Rattle.weather_book.specs.Stands.{HasRows}
use Rattle.batch_adding.specs.declared.adding.BatchEnd.{BatchEnd}
use Rattle.batch_adding.specs.declared.adding.BatchEnd.TheVariants.{Done, Fault, OutOfMemory}

-- how many batches so many rows are: each has as many as it may, and the last what is left
abbrev pub batch_count : ℕ → ℕ
batch_count rows = (rows + (rows_in_a_batch - 1)) / rows_in_a_batch

-- how many changes of the disk so many rows take
abbrev pub changes_for_rows : ℕ → ℕ
changes_for_rows rows = changes_in_a_batch * batch_count rows

-- how many changes of the disk it takes to open an archive and fill it, at most
abbrev pub changes_to_fill : ℕ
changes_to_fill = most_recovery_changes + changes_for_rows most_rows

-- the image has these rows, and then none or more of the next ones, in order and none skipped
abbrev pub HasSome : List Row → List Row → List ℕ → Type 0
HasSome mine next image = (n : ℕ) × HasRows (mine ++ take n next) image

-- the image has the old rows, or these and the new ones
abbrev pub HasOldOrAll : List Row → List Row → List ℕ → Type 0
HasOldOrAll old new image = HasRows old image ⊎ HasRows (old ++ new) image

-- how far the moment has come with a batch
abbrev pub MovedBy : BatchEnd → ℕ → ℕ → Type 0
MovedBy Done old new = new ≡ old + changes_in_a_batch
MovedBy Fault old new = (old < new) × (new ≤ old + changes_in_a_batch)
MovedBy OutOfMemory old new = new ≡ old
