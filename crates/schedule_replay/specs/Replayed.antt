-- What the replay of a schedule comes to.
use Rattle.std.specs.Prelude.{◌≡◌, ℕ, ◌⊎◌, Bool, List, ◌++◌, length, Some}
use Rattle.std.specs.declared.option.Option.{Option}
use Rattle.std.specs.Io.KnownBytes.{Appends}
use Rattle.causes.specs.Written.{WritesPart}
use Rattle.settings_file.specs.StationSettings.{StationSettings}
use Rattle.loop_packet.specs.declared.packet.LoopPacket.{LoopPacket}
use Rattle.disk_model.specs.Stopping.{stopping_medium}
use Rattle.disk_model.specs.declared.mem_disk.MemDisk.{MemDisk}
use Rattle.disk_model.specs.declared.stopping.Stopping.{Stopping}
use Rattle.weather_book.specs.Stands.{HasRows}
use Rattle.schedule_file.specs.declared.schedule.Schedule.{Schedule}
use Rattle.station_sim.specs.declared.sim.Sim.{Sim}
use Rattle.station_sim.specs.Standing.{SimStandsFor}
use Rattle.replay_laws.specs.Kept.{Kept}
use Rattle.replay_laws.specs.Schedule.{ReplayStep, records}
use Rattle.replay_laws.specs.Replay.{RunIsBegun, IsReplay, IsReplayBy, IsWhole, Item, Stage, opened, start}
use Rattle.replay_laws.specs.Texts.{text}
use Rattle.round_play.specs.Opening.{stopping_limits}
use Rattle.round_play.specs.Resting.{AtRest, IsRoomFor}
use Rattle.schedule_replay.specs.Standing.{said_in}
use Rattle.schedule_steps.specs.Steps.{steps_for}

-- the steps of a schedule, as those of a run
abbrev pub steps_in : Schedule → List ReplayStep
steps_in schedule = steps_for schedule.period schedule.steps.items

-- The disk is as it was made, with nothing in its file, and has the room that a run of so many records asks for.
pub record IsNewDisk (records : ℕ) (eeprom : List ℕ) (packet : LoopPacket) (disk : Stopping MemDisk) : Type 0 where
  pub rests : AtRest 0 (start eeprom packet).archive disk
  pub room : IsRoomFor records (stopping_limits disk)

-- The text of a run of the schedule was written, by whether a delivery was unseen, and all is kept of its items.
pub record IsReplayed (unseen : Bool) (settings : StationSettings) (from : Stage) (steps : List ReplayStep)
    (old new : Option (List ℕ)) : Type 0 where
  pub items : List Item
  pub is_replay : IsReplayBy unseen settings from steps items
  pub kept : Kept settings (records steps) items
  pub written : Appends old new (text items)

-- What was written is a prefix of the text of items that are the run of the schedule, or the beginning of one.
pub record ReplayIsCutOff (settings : StationSettings) (from : Stage) (steps : List ReplayStep)
    (old new : Option (List ℕ))
    : Type 0 where
  pub items : List Item
  pub is_begun : RunIsBegun settings from steps items ⊎ IsReplay settings from steps items
  pub kept : Kept settings (records steps) items
  pub written : WritesPart old new (text items)

-- The line and the disk took part in the run of all steps that gave these items: the line stands where the run left it,
-- and its talk gained those of the rounds; the disk reads the rows, has the file's length, and began so many changes.
pub record TookPart (settings : StationSettings) (from : Stage) (steps : List ReplayStep) (items : List Item)
    (before after : Sim) (disk : Stopping MemDisk) : Type 0 where
  pub run : IsWhole settings from steps items
  pub line : SimStandsFor after run.last.line
  pub talk : after.talk.items ≡ before.talk.items ++ said_in items
  pub image : List ℕ
  pub reads : stopping_medium.seen disk ≡ Some image
  pub rows : HasRows run.last.archive.rows image
  pub size : length image ≡ (opened run.last.is_open run.last).archive.size
  pub changes : stopping_medium.moment disk ≡ (opened run.last.is_open run.last).archive.changes
