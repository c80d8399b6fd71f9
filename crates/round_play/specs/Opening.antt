-- The opening of an archive on a disk at rest.
use Rattle.std.specs.Prelude.{◌≡◌, ℕ, ◌+◌, ◌≤◌, Bool, true, false, Some, None}
use Rattle.std.specs.declared.option.Option.{Option}
use Rattle.settings_file.specs.StationSettings.{StationSettings}
use Rattle.disk_model.specs.Disk.{MayBegin}
use Rattle.disk_model.specs.DiskState.{Limits}
use Rattle.disk_model.specs.Stopping.{stopping_medium, stopping_state_of}
use Rattle.disk_model.specs.declared.mem_disk.MemDisk.{MemDisk}
use Rattle.disk_model.specs.declared.stopping.Stopping.{Stopping}
use Rattle.gated_log.specs.Layout.{empty_size}
use Rattle.station_session.specs.declared.session.Session.{Session}
use Rattle.schedule_file.specs.declared.schedule.step.Stop.{Stop}
use Rattle.replay_laws.specs.Keeping.{Archive, changes_in_an_opening}
use Rattle.replay_laws.specs.Replay.{archive_made_ready, cut_archive}
use Rattle.round_play.specs.Resting.{AtRest, SessionGoesOn}

-- what the disk was made with
abbrev pub stopping_limits : Stopping MemDisk → Limits
stopping_limits disk = (stopping_state_of disk).inner.limits

-- The disk has room for an opening: its changes at most, which write an archive without slots.
pub record CanOpen (disk : Stopping MemDisk) : Type 0 where
  pub capacity : empty_size ≤ (stopping_limits disk).capacity
  pub changes : changes_in_an_opening ≤ (stopping_state_of disk).inner.changes
  pub bytes : empty_size ≤ (stopping_state_of disk).inner.bytes
  pub moments : MayBegin stopping_medium changes_in_an_opening disk

-- it is at rest with some archive, which can be opened
abbrev pub DiskIsReady : Stopping MemDisk → Type 0
DiskIsReady disk = (openings : ℕ) × (a : Archive) × AtRest openings a disk × CanOpen disk

-- the archive was opened: so many openings were made before, and the session goes on
abbrev pub IsOpened : StationSettings → ℕ → Archive → Session → Stopping MemDisk → Type 0
IsOpened settings openings a session disk =
    AtRest (openings + 1) (archive_made_ready a) disk × SessionGoesOn settings a.rows session disk

-- the same, if there is a session
abbrev pub HasOpened : StationSettings → ℕ → Archive → Option Session → Stopping MemDisk → Type 0
HasOpened settings openings a None disk = ⊥
HasOpened settings openings a (Some session) disk = IsOpened settings openings a session disk

-- By whether the stop was reached: there is no session and the disk is at rest with what the stop left, or the
-- archive was opened.
abbrev pub OpensBy : Bool → StationSettings → Stop → ℕ → Archive → Option Session → Stopping MemDisk → Type 0
OpensBy true settings stop openings a session disk =
    (session ≡ None) × AtRest (openings + 1) (cut_archive stop a) disk
OpensBy false settings stop openings a session disk = HasOpened settings openings a session disk
