-- A disk between the works of a run, and a session over it.
use Rattle.std.specs.Prelude.{◌≡◌, ℕ, ◌+◌, ◌*◌, ◌≤◌, false, List, length, Some}
use Rattle.station_base.specs.declared.row.Row.{Row}
use Rattle.settings_file.specs.StationSettings.{StationSettings}
use Rattle.disk_model.specs.Disk.{IsDurable}
use Rattle.disk_model.specs.DiskState.{Limits}
use Rattle.disk_model.specs.StoppingState.{StoppingState}
use Rattle.disk_model.specs.Stopping.{stopping_medium, stopping_state_of}
use Rattle.disk_model.specs.declared.mem_disk.MemDisk.{MemDisk}
use Rattle.disk_model.specs.declared.stopping.Stopping.{Stopping}
use Rattle.gated_log.specs.Calls.{changes_in_a_batch}
use Rattle.gated_log.specs.Layout.{empty_size, slot_size}
use Rattle.weather_book.specs.Stands.{HasRows, NowHasRows, StandsOn}
use Rattle.station_session.specs.declared.session.Session.{Session}
use Rattle.station_session.specs.Session.{book_of, session_settings, session_most_rows, session_is_stale}
use Rattle.replay_laws.specs.Keeping.{Archive, changes_in_an_opening, slots_for_rows}
use Rattle.replay_laws.specs.Room.{changes_of_turns, slots_in_a_record}
use Rattle.replay_laws.specs.Stopped.{DiskRests}

-- the bytes that a record takes in the file at most
abbrev pub bytes_of_a_record : ℕ
bytes_of_a_record = slots_in_a_record * slot_size

-- the bytes of writes that are counted for an opening, which writes an archive without slots at most
abbrev pub bytes_of_an_opening : ℕ
bytes_of_an_opening = 200

-- room for the bytes that the openings of a run write, of which there is one more than turns: far more than they take
abbrev pub bytes_of_openings : ℕ
bytes_of_openings = 2500000

-- The room that a run of so many records asks for: a record may be a batch of its own, with a gate, and the archive is
-- opened once more behind all turns.
pub record IsRoomFor (records : ℕ) (limits : Limits) : Type 0 where
  pub capacity : empty_size + bytes_of_a_record * records ≤ limits.capacity
  pub changes : changes_of_turns + changes_in_an_opening + changes_in_a_batch * records ≤ limits.changes
  pub bytes : bytes_of_openings + (bytes_of_a_record + 1) * records ≤ limits.bytes

-- The room that the journal has left: all but what the archive's changes took since the disk was made, its rows, and
-- each opening.
pub record HasLeft (openings : ℕ) (a : Archive) (s : StoppingState) : Type 0 where
  pub changes : s.inner.limits.changes ≤ s.inner.changes + a.changes
  pub bytes : s.inner.limits.bytes ≤ s.inner.bytes
      + (slot_size * slots_for_rows a.rows + length a.rows + bytes_of_an_opening * openings)

-- The disk is at rest, of the archive's length, with its rows in what it reads and in each image that a crash may
-- leave, which is what it reads. No stop is armed, and no call is to fail. So many openings were made.
pub record AtRest (openings : ℕ) (a : Archive) (disk : Stopping MemDisk) : Type 0 where
  pub rests : DiskRests a (stopping_state_of disk) (stopping_medium.moment disk)
  pub unarmed : (stopping_state_of disk).armed ≡ 0
  pub image : List ℕ
  pub seen : stopping_medium.seen disk ≡ Some image
  pub synced : stopping_medium.synced disk ≡ Some image
  pub length_is : length image ≡ a.size
  pub rows : HasRows a.rows image
  pub durable : IsDurable stopping_medium disk
  pub left : NowHasRows stopping_medium disk a.rows
  pub room : HasLeft openings a (stopping_state_of disk)

-- A session of these settings that goes on over the disk, its book standing for these rows.
pub record SessionGoesOn (settings : StationSettings) (rows : List Row) (session : Session) (disk : Stopping MemDisk)
    : Type 0 where
  pub stands : StandsOn stopping_medium (book_of session) disk rows
  pub settings_are : session_settings session ≡ settings
  pub most : session_most_rows session ≡ settings.most
  pub fresh : session_is_stale session ≡ false
