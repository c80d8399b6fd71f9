-- What is kept of the batches of a round, and what a stop leaves of the archive.
use Rattle.std.specs.Prelude.{ℕ, ◌+◌, ◌-◌, ◌*◌, ◌/◌, ◌%◌, ◌==◌, max, Bool, true, false, not, ◌||◌}
use Rattle.std.specs.Prelude.{if◌then◌else◌, List, ◌++◌}
use Rattle.station_base.specs.declared.row.Row.{Row}
use Rattle.settings_file.specs.StationSettings.{StationSettings}
use Rattle.disk_model.specs.Picked.{picked_length, picked_byte}
use Rattle.gated_log.specs.Calls.{changes_in_a_batch}
use Rattle.gated_log.specs.Layout.{slot_size}
use Rattle.packed_rows.specs.Rows.{slot_total}
use Rattle.station_session.specs.Records.{stored_rows}
use Rattle.schedule_file.specs.declared.schedule.step.Stop.{Stop}

-- The rows, the file's length, and the number of changes begun.
pub record Archive : Type 0 where
  pub rows : List Row
  pub size : ℕ
  pub changes : ℕ

-- how many changes an opening makes at most: a sync, and where the file is made anew a write and a sync
abbrev pub changes_in_an_opening : ℕ
changes_in_an_opening = 3

-- how many slots rows take
unfoldable pub slots_for_rows : List Row → ℕ
slots_for_rows rows = slot_total rows

-- the rows of the archive, and behind them those of a batch
abbrev pub with_batch : StationSettings → Archive → List (List ℕ) → List Row
with_batch settings a batch = a.rows ++ stored_rows settings batch

-- the length that the file needs for some rows
abbrev pub needed : Archive → List Row → ℕ
needed a rows = max a.size (slot_size * (slots_for_rows rows + 1) + 1)

-- the archive with a batch stored
abbrev pub appended : StationSettings → Archive → List (List ℕ) → Archive
appended settings a batch =
    record {
      rows = with_batch settings a batch;
      size = needed a (with_batch settings a batch);
      changes = a.changes + changes_in_a_batch;
    }

-- how many batches of a round are stored before this change of its disk, the first of which is change 1
abbrev pub batches_before : ℕ → ℕ
batches_before change = (change - 1) / changes_in_a_batch

-- what a stop behind so many batches leaves, by whether it comes before the gate is written, and whether that is open
abbrev pub left_by_stop : Bool → Bool → StationSettings → Stop → ℕ → Archive → List (List ℕ) → Archive
left_by_stop true opens settings s stored a batch =
    record a {
      size = picked_length s.pick a.size (needed a (with_batch settings a batch));
      changes = a.changes + (s.change - changes_in_a_batch * stored);
    }
left_by_stop false opens settings s stored a batch =
    record {
      rows = if opens then with_batch settings a batch else a.rows;
      size = needed a (with_batch settings a batch);
      changes = a.changes + (s.change - changes_in_a_batch * stored);
    }

-- whether the stop comes at the writes of the batch or at their sync, and so before the gate is written
abbrev pub is_early : Stop → Bool
is_early s = s.change % changes_in_a_batch == 1 || s.change % changes_in_a_batch == 2

-- whether the stop leaves an open gate behind the rows: the byte there was 0 and was to be 1, and a restart picks it
abbrev pub opens_gate : Stop → Archive → Bool
opens_gate s a = not (picked_byte s.pick (slot_size * (slots_for_rows a.rows + 1)) 0 1 == 0)

-- what a stop within a batch leaves, so many batches stored before it
abbrev pub stopped : StationSettings → Stop → ℕ → Archive → List (List ℕ) → Archive
stopped settings s stored a batch = left_by_stop (is_early s) (opens_gate s a) settings s stored a batch
