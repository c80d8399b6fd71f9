-- Where a run that is taken turn by turn stands.
use Rattle.std.specs.Prelude.{◌≡◌, ◌⊎◌, ℕ, ◌+◌, ◌^◌, ◌≤◌, ◌<◌, List, ◌++◌, length, take, drop, get_or, Some, None}
use Rattle.std.specs.declared.option.Option.{Option}
use Rattle.loop_packet.specs.declared.packet.LoopPacket.{LoopPacket}
use Rattle.settings_file.specs.StationSettings.{StationSettings}
use Rattle.disk_model.specs.declared.mem_disk.MemDisk.{MemDisk}
use Rattle.disk_model.specs.declared.stopping.Stopping.{Stopping}
use Rattle.schedule_file.specs.declared.fates.Fates as code_fates
use Rattle.schedule_file.specs.declared.schedule.step.Step as code_step
use Rattle.station_sim.specs.declared.sim.Sim.{Sim}
use Rattle.replay_laws.specs.Room.{lines}
use Rattle.replay_laws.specs.Schedule.{ReplayStep, records}
use Rattle.replay_laws.specs.Replay.{Item, OpensNext, Runs, Stage, opening_if_closed, opened, start}
use Rattle.round_play.specs.declared.playing.Playing.{Playing}
use Rattle.schedule_replay.specs.declared.run.Run.{Run}
use Rattle.schedule_replay.specs.declared.turns.ReplayRun.{ReplayRun}
use Rattle.schedule_steps.specs.Accepted.{AreAccepted}
use Rattle.schedule_replay.specs.Left.{turns_left_by}
use Rattle.round_play.specs.Opening.{stopping_limits}
use Rattle.round_play.specs.Played.{PlayedHost}
use Rattle.round_play.specs.Playing.{RoundIsUnderWay, MayGoOn}
use Rattle.round_play.specs.Resting.{IsRoomFor}
use Rattle.schedule_replay.specs.SoFar.{SoFar}
use Rattle.schedule_replay.specs.Standing.{HasSaid, HoldsAt, LineAt, WasBegun, round_step}
use Rattle.schedule_steps.specs.Steps.{step_of, steps_for}
use Rattle.schedule_replay.specs.Telling.{Telling}

-- What a run is made of: what its console holds and sends, the steps, and its line and its disk as they were made.
pub record Course : Type 0 where
  pub eeprom : List ℕ
  pub packet : LoopPacket
  pub steps : List code_step.Step
  pub before : Sim
  pub made : Stopping MemDisk

-- The steps lead to a stage. There the archive is open, opened if need be ahead of the next step, a round or the end.
pub record OpenedAhead (settings : StationSettings) (from : Stage) (behind to_come : List ReplayStep)
    (items : List Item)
    (before line : Sim) (first_disk disk : Stopping MemDisk) (run : Run) : Type 0 where
  pub given : List Item
  pub stage : Stage
  pub runs : Runs settings behind from given stage
  pub items_are : items ≡ given ++ opening_if_closed stage.is_open stage
  pub next : OpensNext to_come
  pub openings : ℕ
  pub few : openings ≤ lines behind
  pub holds : HoldsAt (openings + 1) settings (opened stage.is_open stage) run disk
  pub at : LineAt stage line
  pub said : HasSaid given before line
  pub limits : stopping_limits disk ≡ stopping_limits first_disk

-- The steps lead to a stage. There the round of the next step was begun, and is under way.
pub record WithinRound (records : ℕ) (settings : StationSettings) (from : Stage) (behind : List ReplayStep)
    (step : ReplayStep)
    (items : List Item) (before line : Sim) (first_disk disk : Stopping MemDisk) (run : Run) (playing : Playing)
    : Type 0 where
  pub given : List Item
  pub stage : Stage
  pub runs : Runs settings behind from given stage
  pub items_are : items ≡ given ++ opening_if_closed stage.is_open stage
  pub openings : ℕ
  pub few : openings ≤ lines behind
  pub fates : code_fates.Fates
  pub is_round : step ≡ round_step fates playing.stop
  pub old : PlayedHost
  pub begun : WasBegun records (openings + 1) settings (opened stage.is_open stage) fates old run
  pub way : RoundIsUnderWay fates playing.stop old playing line disk
  pub may : MayGoOn playing disk
  pub said : HasSaid given before old.link
  pub limits : stopping_limits old.disk ≡ stopping_limits first_disk

-- the step is the next one of a run that took so many
pub record IsNext (steps : List code_step.Step) (taken : ℕ) (step : code_step.Step) : Type 0 where
  pub within : taken < length steps
  pub is : step ≡ get_or steps taken step

-- by whether a round is under way: it is, of the next step; or the run stands between two steps, or ahead of the next
abbrev pub StandsBy : Option Playing → Course → StationSettings → ℕ → List Item → Run → Sim → Stopping MemDisk
    → Type 0
StandsBy None c settings taken items run line disk =
    SoFar settings (start c.eeprom c.packet) (steps_for settings.period (take taken c.steps)) items c.before line c.made
    disk run
    ⊎ OpenedAhead settings (start c.eeprom c.packet) (steps_for settings.period (take taken c.steps))
    (steps_for settings.period (drop taken c.steps)) items c.before line c.made disk run
StandsBy (Some playing) c settings taken items run line disk = (step : code_step.Step) × IsNext c.steps taken step
    × WithinRound (length (records (steps_for settings.period c.steps))) settings (start c.eeprom c.packet)
    (steps_for settings.period (take taken c.steps)) (step_of settings.period step) items c.before line c.made disk run
    playing

-- So many of the steps were taken in so many turns, which gave these items, and the run, its line and its disk stand
-- where these lead. The steps are accepted, the disk, as it was made, has room for their records, and no more turns
-- are to come than are left.
pub record StandsAt (playing : Option Playing) (c : Course) (settings : StationSettings) (taken turns : ℕ)
    (items : List Item) (run : Run) (line : Sim) (disk : Stopping MemDisk) : Type 0 where
  pub accepted : AreAccepted settings.period c.steps
  pub room : IsRoomFor (length (records (steps_for settings.period c.steps))) (stopping_limits c.made)
  pub few : turns + turns_left_by playing settings.period c.steps taken run.session ≤ length c.steps + 2 ^ 41
  pub stands : StandsBy playing c settings taken items run line disk

-- a run that is taken turn by turn stands so, its round under way being this one
abbrev pub StandsWith : Option Playing → Course → List Item → ReplayRun → Sim → Stopping MemDisk → Type 0
StandsWith playing c items run line disk =
    StandsAt playing c run.settings run.taken run.turns items run.run line disk

-- the run stands behind its turns, which gave these items
abbrev pub Replaying : List ℕ → LoopPacket → List code_step.Step → List Item → Sim → Sim → Stopping MemDisk
    → Stopping MemDisk → ReplayRun → Type 0
Replaying eeprom packet steps items before line made disk run = StandsWith run.playing
    (record { eeprom = eeprom; packet = packet; steps = steps; before = before; made = made }) items run line disk

-- the run stands behind some turns, so that its next one may be taken
abbrev pub MayTurn : List code_step.Step → Sim → Stopping MemDisk → ReplayRun → Type 0
MayTurn steps line disk run = (eeprom : List ℕ) × (packet : LoopPacket) × (items : List Item) × (before : Sim)
    × (made : Stopping MemDisk) × Replaying eeprom packet steps items before line made disk run

-- a turn gave items, which are told, and the run stands behind them
abbrev pub RunTakesTurn : {T : Type 0} → Telling T → List ℕ → LoopPacket → List code_step.Step → List Item → Sim → Sim
    → Stopping MemDisk → Stopping MemDisk → ReplayRun → T → T → Type 0
RunTakesTurn telling eeprom packet steps items before line made disk run old new =
    (given : List Item) × telling.tells old given new
    × Replaying eeprom packet steps (items ++ given) before line made disk run

-- so many turns are left at most of a run of these steps
abbrev pub run_turns_left : List code_step.Step → ReplayRun → ℕ
run_turns_left steps run = turns_left_by run.playing run.settings.period steps run.taken run.run.session
