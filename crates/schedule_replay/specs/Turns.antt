-- What a turn of a run comes to, behind the items that were given before it.
use Rattle.std.specs.Prelude.{◌≡◌, ℕ, ◌+◌, ◌⊎◌, Bool, true, false, List, ◌++◌, is_some, Some, None}
use Rattle.std.specs.declared.option.Option.{Option}
use Rattle.settings_file.specs.StationSettings.{StationSettings}
use Rattle.disk_model.specs.declared.mem_disk.MemDisk.{MemDisk}
use Rattle.disk_model.specs.declared.stopping.Stopping.{Stopping}
use Rattle.station_sim.specs.declared.sim.Sim.{Sim}
use Rattle.replay_laws.specs.Kept.{Kept}
use Rattle.replay_laws.specs.Schedule.{ReplayStep, records}
use Rattle.replay_laws.specs.Replay.{RunIsBegun, IsReplay, IsUnseen, Item, Stage, start}
use Rattle.round_play.specs.declared.playing.Playing.{Playing}
use Rattle.schedule_replay.specs.declared.turns.ReplayRun.{ReplayRun}
use Rattle.schedule_replay.specs.declared.turns.ReplayTurn.{ReplayTurn}
use Rattle.schedule_replay.specs.declared.turns.ReplayTurn.TheVariants as turn
use Rattle.schedule_replay.specs.Replayed.{TookPart}
use Rattle.schedule_replay.specs.Replaying.{Course, StandsWith}
use Rattle.schedule_steps.specs.Steps.{steps_for}
use Rattle.schedule_replay.specs.Telling.{Telling}

-- The run came to its end: behind the items before, those given are the closing of the run. They are told, all is kept,
-- and in this run the line and the disk took part.
pub record EndsRun {T : Type 0} (telling : Telling T) (settings : StationSettings) (from : Stage)
    (steps : List ReplayStep)
    (items : List Item) (before after : Sim) (disk : Stopping MemDisk) (old new : T) : Type 0 where
  pub given : List Item
  pub kept : Kept settings (records steps) (items ++ given)
  pub told : telling.tells old given new
  pub took_part : TookPart settings from steps (items ++ given) before after disk

-- A delivery was unseen: the items up to it are told, and all is kept.
pub record BreaksRun {T : Type 0} (telling : Telling T) (settings : StationSettings) (from : Stage)
    (steps : List ReplayStep) (items : List Item) (old new : T) : Type 0 where
  pub given : List Item
  pub is_unseen : IsUnseen settings from steps (items ++ given)
  pub kept : Kept settings (records steps) (items ++ given)
  pub told : telling.tells old given new

-- The run was cut off: a prefix of what there is to tell of some items is told, and all is kept.
pub record CutsRun {T : Type 0} (telling : Telling T) (settings : StationSettings) (from : Stage)
    (steps : List ReplayStep) (items : List Item) (old new : T) : Type 0 where
  pub given : List Item
  pub is_begun : RunIsBegun settings from steps (items ++ given) ⊎ IsReplay settings from steps (items ++ given)
  pub kept : Kept settings (records steps) (items ++ given)
  pub told : telling.breaks_off old given new

-- what a turn of a run comes to that has given these items, by its answer
abbrev pub RunTurnsTo : {T : Type 0} → Telling T → ReplayTurn → Course → StationSettings → List Item → Sim
    → Stopping MemDisk → ReplayRun → T → T → Type 0
RunTurnsTo telling turn.More c settings items line disk run old new = (given : List Item) × telling.tells old given new
    × StandsWith run.playing c (items ++ given) run line disk
RunTurnsTo telling turn.Ended c settings items line disk run old new =
    EndsRun telling settings (start c.eeprom c.packet) (steps_for settings.period c.steps) items c.before line disk old
    new
RunTurnsTo telling turn.Unseen c settings items line disk run old new =
    BreaksRun telling settings (start c.eeprom c.packet) (steps_for settings.period c.steps) items old new
RunTurnsTo telling turn.WriteFault c settings items line disk run old new =
    CutsRun telling settings (start c.eeprom c.packet) (steps_for settings.period c.steps) items old new
RunTurnsTo telling turn.OutOfMemory c settings items line disk run old new =
    CutsRun telling settings (start c.eeprom c.packet) (steps_for settings.period c.steps) items old new

-- how a run moves that goes on, by the rounds under way before and then: one step is taken that makes no round, or the
-- archive is opened; a round is begun in an open archive; it goes on; it ends, and with it its step
abbrev pub RunMoves : Option Playing → Option Playing → Bool → Bool → ℕ → ℕ → Type 0
RunMoves None None was_open is_open taken now =
    (now ≡ taken + 1) ⊎ ((now ≡ taken) × (was_open ≡ false) × (is_open ≡ true))
RunMoves None (Some playing) was_open is_open taken now = (now ≡ taken) × (was_open ≡ true)
RunMoves (Some playing) (Some later) was_open is_open taken now = now ≡ taken
RunMoves (Some playing) None was_open is_open taken now = now ≡ taken + 1

-- a turn with more to come was one of those that there are
abbrev pub IsOneTurn : ReplayRun → ReplayRun → Type 0
IsOneTurn old new =
    RunMoves old.playing new.playing (is_some old.run.session) (is_some new.run.session) old.taken new.taken

-- no turn was taken, no step and no round either
pub record RunIsNew (run : ReplayRun) : Type 0 where
  pub turns : run.turns ≡ 0
  pub taken : run.taken ≡ 0
  pub no_round : run.playing ≡ None
  pub closed : run.run.session ≡ None
