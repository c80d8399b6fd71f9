-- The batch within which a disk stopped.
use Rattle.std.specs.Prelude.{◌≡◌, ℕ, ◌+◌, ◌-◌, ◌*◌, ◌<◌, ◌≤◌, List, [], ◌∷◌, length, slice_index, false, Some, None}
use Rattle.std.specs.declared.option.Option.{Option}
use Rattle.disk_model.specs.Picked.{picked_length, picked_byte}
use Rattle.disk_model.specs.StoppingState.{StoppingState}
use Rattle.settings_file.specs.StationSettings.{StationSettings}
use Rattle.dmpaft_pump.specs.Keeper.{Handed, count}
use Rattle.gated_log.specs.Calls.{changes_in_a_batch}
use Rattle.gated_log.specs.Layout.{slot_size}
use Rattle.weather_book.specs.Stands.{HasRows}
use Rattle.station_session.specs.Batches.{all_records}
use Rattle.schedule_file.specs.declared.schedule.step.Stop.{Stop}
use Rattle.replay_laws.specs.Keeping.{Archive, appended, slots_for_rows, with_batch}

-- the archive with those of these batches that were kept
abbrev pub with_kept : StationSettings → Archive → Handed → Archive
with_kept settings a Handed.Nothing = a
with_kept settings a (Handed.Kept rows more) = with_kept settings (appended settings a rows) more
with_kept settings a (Handed.Refused rows why) = a

-- the records of the one that was refused, if one was
abbrev pub refused_records : Handed → List (List ℕ)
refused_records Handed.Nothing = []
refused_records (Handed.Kept rows more) = refused_records more
refused_records (Handed.Refused rows why) = rows

-- An image has the rows of an archive and its length, and so many changes were begun.
pub record ArchiveIsLeft (x : Archive) (image : List ℕ) (changes : ℕ) : Type 0 where
  pub rows : HasRows x.rows image
  pub size : length image ≡ x.size
  pub changes_are : changes ≡ x.changes

-- The image of a restart: its length and, at the newest write of one byte, its byte are picked, by what the last sync
-- left.
pub record IsRestart (s : StoppingState) (synced : Option (List ℕ)) (image : List ℕ) : Type 0 where
  pub size : length image ≡ picked_length s.pick s.inner.synced_size s.inner.size
  pub told : (c : List ℕ) × (synced ≡ Some c)
  pub byte : (c : List ℕ) → synced ≡ Some c → (p byte : ℕ) (more : List (ℕ × ℕ)) → s.inner.singles ≡ (p, byte) ∷ more
      → p < length image → slice_index image p ≡ picked_byte s.pick p (slice_index c p) byte

-- the number of the change within which the disk stops, or 0 where none is
abbrev pub armed_by : Option Stop → ℕ
armed_by None = 0
armed_by (Some stop) = stop.change

-- a stop comes within a change, the first of which is change 1
abbrev pub IsStop : Option Stop → Type 0
IsStop None = Unit {0}
IsStop (Some stop) = 1 ≤ stop.change

-- A disk at rest, of the archive's length.
pub record DiskRests (x : Archive) (s : StoppingState) (begun : ℕ) : Type 0 where
  pub goes : s.stopped ≡ false
  pub sure : s.inner.fails_at ≡ 0
  pub size : s.inner.size ≡ x.size
  pub synced : s.inner.synced_size ≡ x.size
  pub changes_are : begun ≡ x.changes

-- A disk that does not fail but for a stop, at rest and of the archive's length, with room for all of these batches.
pub record DiskHasRoom (settings : StationSettings) (armed pick : ℕ) (a : Archive) (steps : Handed)
    (s : StoppingState) : Type 0 where
  pub goes : s.stopped ≡ false
  pub armed_is : s.armed ≡ armed
  pub pick_is : s.pick ≡ pick
  pub sure : s.inner.fails_at ≡ 0
  pub size : s.inner.size ≡ a.size
  pub synced : s.inner.synced_size ≡ a.size
  pub capacity : slot_size * (slots_for_rows (with_batch settings a (all_records steps)) + 1) + 1
      ≤ s.inner.limits.capacity
  pub changes : changes_in_a_batch * count steps ≤ s.inner.changes
  pub bytes : slot_size * (slots_for_rows (with_batch settings a (all_records steps)) - slots_for_rows a.rows)
      + count steps ≤ s.inner.bytes
