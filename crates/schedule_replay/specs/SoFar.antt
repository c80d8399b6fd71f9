-- Where the replay of a schedule stands after some of its steps.
use Rattle.std.specs.Prelude.{◌≡◌, ℕ, ◌≤◌, List}
use Rattle.settings_file.specs.StationSettings.{StationSettings}
use Rattle.disk_model.specs.declared.mem_disk.MemDisk.{MemDisk}
use Rattle.disk_model.specs.declared.stopping.Stopping.{Stopping}
use Rattle.station_sim.specs.declared.sim.Sim.{Sim}
use Rattle.replay_laws.specs.Schedule.{ReplayStep}
use Rattle.replay_laws.specs.Replay.{Item, Runs, Stage}
use Rattle.replay_laws.specs.Room.{lines}
use Rattle.schedule_replay.specs.declared.run.Run.{Run}
use Rattle.round_play.specs.Opening.{stopping_limits}
use Rattle.schedule_replay.specs.Standing.{HasSaid, HoldsAt, LineAt}

-- These steps were taken from a stage, and gave these items: the run, its line and its disk stand where they lead, and
-- there were no more openings than steps.
pub record SoFar (settings : StationSettings) (from : Stage) (steps : List ReplayStep) (items : List Item)
    (before line : Sim) (first disk : Stopping MemDisk) (run : Run) : Type 0 where
  pub stage : Stage
  pub runs : Runs settings steps from items stage
  pub openings : ℕ
  pub few : openings ≤ lines steps
  pub holds : HoldsAt openings settings stage run disk
  pub at : LineAt stage line
  pub said : HasSaid items before line
  pub limits : stopping_limits disk ≡ stopping_limits first
