-- What a teller is told of the run of a schedule's steps.
use Rattle.std.specs.Prelude.{◌⊎◌, Bool, List}
use Rattle.settings_file.specs.StationSettings.{StationSettings}
use Rattle.replay_laws.specs.Kept.{Kept}
use Rattle.replay_laws.specs.Schedule.{ReplayStep, records}
use Rattle.replay_laws.specs.Replay.{RunIsBegun, IsReplay, IsReplayBy, Item, Stage}
use Rattle.schedule_replay.specs.Telling.{Telling}

-- What was told are items that are the run of the steps, by whether a delivery was unseen, and all is kept of them.
pub record TellsRun {T : Type 0} (telling : Telling T) (unseen : Bool) (settings : StationSettings) (from : Stage)
    (steps : List ReplayStep) (old new : T) : Type 0 where
  pub items : List Item
  pub is_replay : IsReplayBy unseen settings from steps items
  pub kept : Kept settings (records steps) items
  pub told : telling.tells old items new

-- What was told is a prefix of what there is to tell of items that are the run of the steps, or the beginning of one.
pub record TellsFront {T : Type 0} (telling : Telling T) (settings : StationSettings) (from : Stage)
    (steps : List ReplayStep) (old new : T) : Type 0 where
  pub items : List Item
  pub is_begun : RunIsBegun settings from steps items ⊎ IsReplay settings from steps items
  pub kept : Kept settings (records steps) items
  pub told : telling.breaks_off old items new
