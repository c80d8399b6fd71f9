-- What is written of a run, and what the reads for it leave.
use Rattle.std.specs.Prelude.{ℕ, ◌≡◌, List, Ok, Err}
use Rattle.std.specs.declared.result.Result.{Result}
use Rattle.std.specs.Io.KnownBytes.{Appends}
use Rattle.causes.specs.Lists.{IsFrontOf}
use Rattle.causes.specs.Written.{WritesPart}
use Rattle.station_io.specs.Sink.{Outlet}
use Rattle.station_base.specs.declared.row.Row.{Row}
use Rattle.settings_file.specs.StationSettings.{StationSettings}
use Rattle.disk_model.specs.Disk.{Stays}
use Rattle.disk_model.specs.Stopping.{stopping_medium, stopping_state_of}
use Rattle.disk_model.specs.declared.mem_disk.MemDisk.{MemDisk}
use Rattle.disk_model.specs.declared.stopping.Stopping.{Stopping}
use Rattle.station_session.specs.declared.session.Session.{Session}
use Rattle.replay_laws.specs.Keeping.{Archive}
use Rattle.schedule_replay.specs.declared.cut.Cut.{Cut}
use Rattle.schedule_replay.specs.declared.cut.Cut.TheVariants.{WriteFault, OutOfMemory}
use Rattle.round_play.specs.Resting.{AtRest, SessionGoesOn}

-- The text was written: to the bytes of the sink, where it tells them, and by its calls.
pub record IsWritten {K : Type 0} (outlet : Outlet K) (old new : K) (text : List ℕ) : Type 0 where
  pub appended : Appends (outlet.taken old) (outlet.taken new) text
  pub wrote : outlet.wrote old text new

-- A prefix of the text was written, likewise.
pub record IsFrontWritten {K : Type 0} (outlet : Outlet K) (old new : K) (text : List ℕ) : Type 0 where
  pub part : WritesPart (outlet.taken old) (outlet.taken new) text
  pub written : List ℕ
  pub front : IsFrontOf written text
  pub wrote : outlet.wrote old written new

-- All of the text is written, or, where a write failed, a prefix of it. No memory is asked for.
abbrev pub WritesText : {K : Type 0} → Outlet K → K → K → List ℕ → Result (Unit {0}) Cut → Type 0
WritesText outlet old new text (Ok done) = IsWritten outlet old new text
WritesText outlet old new text (Err WriteFault) = IsFrontWritten outlet old new text
WritesText outlet old new text (Err OutOfMemory) = ⊥

-- The disk is at rest, and a session goes on over it.
pub record IsReadable (session : Session) (disk : Stopping MemDisk) : Type 0 where
  pub openings : ℕ
  pub archive : Archive
  pub settings : StationSettings
  pub rows : List Row
  pub rests : AtRest openings archive disk
  pub goes_on : SessionGoesOn settings rows session disk

-- Reads alone were made, and none failed: a disk at rest still is, and what went on over it still does.
pub record IsOnlyRead (old new : Stopping MemDisk) : Type 0 where
  pub state : stopping_state_of new ≡ stopping_state_of old
  pub stays : Stays stopping_medium old new
  pub rests : (openings : ℕ) (a : Archive) → AtRest openings a old → AtRest openings a new
  pub goes_on : (settings : StationSettings) (rows : List Row) (session : Session)
      → SessionGoesOn settings rows session old
      → SessionGoesOn settings rows session new
