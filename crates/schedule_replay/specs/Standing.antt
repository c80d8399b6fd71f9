-- Where a run stands between its steps.
use Rattle.std.specs.Prelude.{◌≡◌, ℕ, ◌+◌, ◌*◌, ◌≤◌, ◌<◌, Bool, true, false, not}
use Rattle.std.specs.Prelude.{if◌then◌else◌, List, [], ◌∷◌, ◌++◌, length, get_or, Some, None}
use Rattle.std.specs.declared.option.Option.{Option}
use Rattle.station_base.specs.declared.row.Row.{Row}
use Rattle.settings_file.specs.StationSettings.{StationSettings}
use Rattle.serial_link.specs.declared.talk.TalkItem.{TalkItem}
use Rattle.disk_model.specs.declared.mem_disk.MemDisk.{MemDisk}
use Rattle.disk_model.specs.declared.stopping.Stopping.{Stopping}
use Rattle.station_session.specs.declared.session.Session.{Session}
use Rattle.station_session.specs.Attempts.{all_said}
use Rattle.station_sim.specs.declared.sim.Sim.{Sim}
use Rattle.schedule_file.specs.Lists.{fates_of, records_left_in}
use Rattle.schedule_file.specs.declared.fates.Fates as code_fates
use Rattle.schedule_file.specs.declared.schedule.step.Step as code_step
use Rattle.schedule_file.specs.declared.schedule.step.Step.TheVariants as code
use Rattle.schedule_file.specs.declared.schedule.step.Stop.{Stop}
use Rattle.station_sim.specs.Standing.{SimStandsFor}
use Rattle.gated_log.specs.Calls.{changes_in_a_batch}
use Rattle.replay_laws.specs.Room.{changes_in_a_turn, changes_of_turns}
use Rattle.replay_laws.specs.Schedule.{ReplayStep}
use Rattle.schedule_file.specs.Lists.{no_fates}
use Rattle.replay_laws.specs.Replay.{Does, Item, Rounded, Stage, is_stop, opened}
use Rattle.replay_laws.specs.Keeping.{Archive}
use Rattle.replay_laws.specs.Stopped.{IsStop}
use Rattle.replay_laws.specs.Round.{made_attempts}
use Rattle.schedule_replay.specs.declared.run.Run.{Run}
use Rattle.round_play.specs.Opening.{CanOpen, stopping_limits}
use Rattle.round_play.specs.Played.{PlayedHost, RoundIsCounted, MayPlay}
use Rattle.round_play.specs.Resting.{AtRest, SessionGoesOn, IsRoomFor}
use Rattle.schedule_replay.specs.Telling.{Telling}
use Rattle.schedule_file.specs.Limits.{most_records, most_turns}

-- by whether the run is open: its session goes on, or it has none
abbrev pub HasSession : Bool → StationSettings → List Row → Option Session → Stopping MemDisk → Type 0
HasSession true settings rows (Some session) disk = SessionGoesOn settings rows session disk
HasSession true settings rows None disk = ⊥
HasSession false settings rows (Some session) disk = ⊥
HasSession false settings rows None disk = Unit {0}

-- The disk and the session of a run stand where it stands, so many openings made, and what it counts is counted.
pub record HoldsAt (openings : ℕ) (settings : StationSettings) (s : Stage) (run : Run) (disk : Stopping MemDisk)
    : Type 0 where
  pub rests : AtRest openings s.archive disk
  pub session : HasSession s.is_open settings s.archive.rows run.session disk
  pub rounds : run.rounds ≡ s.rounds
  pub written : run.written ≡ s.written

-- The line in memory stands where the run stands, and no fates are set on it.
pub record LineAt (s : Stage) (line : Sim) : Type 0 where
  pub stands : SimStandsFor line s.line
  pub fates : fates_of line.fates ≡ no_fates

-- what was said and heard in the rounds of a run
abbrev pub said_in : List Item → List TalkItem
said_in [] = []
said_in (Item.Opened rows n ∷ o) = said_in o
said_in (Item.OpenStopped k rows ∷ o) = said_in o
said_in (Item.Ran x ∷ o) = all_said (made_attempts x.tried) ++ said_in o
said_in (Item.Unsaid n u ∷ o) = said_in o
said_in (Item.Ended rows ∷ o) = said_in o

-- the talk of a line grew by those of the rounds among the items
abbrev pub HasSaid : List Item → Sim → Sim → Type 0
HasSaid o before after = after.talk.items ≡ before.talk.items ++ said_in o

-- A run of so many records has room at this stage, so many openings made.
pub record HasRunRoom (records openings : ℕ) (s : Stage) (disk : Stopping MemDisk) : Type 0 where
  pub room : IsRoomFor records (stopping_limits disk)
  pub changes : s.archive.changes ≤ changes_in_a_batch * length s.archive.rows + changes_of_turns
  pub rows : length s.archive.rows ≤ records
  pub records_are : records ≤ most_records
  pub few : openings ≤ most_turns

-- what is so of a step that comes next in a run of so many records; before a round there is room for the changes of a
-- turn
abbrev pub MayTake : ℕ → StationSettings → ReplayStep → Stage → Type 0
MayTake records settings (ReplayStep.Due rs) s = Unit {0}
MayTake records settings (ReplayStep.Idle n) s = Unit {0}
MayTake records settings (ReplayStep.Open stop) s = IsStop stop
MayTake records settings (ReplayStep.Round f left stop) s =
    IsStop stop × RoundIsCounted records settings f s
    × (s.archive.changes + changes_in_a_turn ≤ changes_in_a_batch * length s.archive.rows + changes_of_turns)

-- a step opens the archive, or makes a round
abbrev pub open_step : Option Stop → ReplayStep
open_step stop = ReplayStep.Open stop

abbrev pub round_step : code_fates.Fates → Option Stop → ReplayStep
round_step fates stop = ReplayStep.Round (fates_of fates) (records_left_in fates.mids.items) stop

-- the step makes no round
abbrev pub IsNoRound : code_step.Step → Type 0
IsNoRound (code.Due rec) = Unit {0}
IsNoRound (code.Run first count) = Unit {0}
IsNoRound (code.Idle ticks) = Unit {0}
IsNoRound (code.Open stop) = Unit {0}
IsNoRound (code.Round fates stop) = ⊥

-- The next step of a run that took so many makes a round, under these fates and with this stop.
pub record IsNextRound (steps : List code_step.Step) (taken : ℕ) (fates : code_fates.Fates)
    (stop : Option Stop) : Type 0 where
  pub within : taken < length steps
  pub is : code.Round fates stop ≡ get_or steps taken (code.Round fates stop)

-- a run of so many records may take the step at this stage
abbrev pub StandsThere : ℕ → ℕ → StationSettings → ReplayStep → Stage → Stopping MemDisk → Type 0
StandsThere records openings settings x s disk = HasRunRoom records openings s disk × MayTake records settings x s

-- the run stands at some stage, and the archive can be opened
abbrev pub MayOpen : StationSettings → Run → Stopping MemDisk → Type 0
MayOpen settings run disk =
    (openings : ℕ) × (s : Stage) × HoldsAt openings settings s run disk × CanOpen disk

-- the run stands at some stage at which it may take the step
abbrev pub MayRun : StationSettings → ReplayStep → Run → Sim → Stopping MemDisk → Type 0
MayRun settings x run line disk =
    (records : ℕ) × (openings : ℕ) × (s : Stage) × HoldsAt openings settings s run disk × LineAt s line
    × StandsThere records openings settings x s disk × (run.rounds < 1000)

-- The session of a run at this stage, opened first where it was closed, and the run without it.
pub record Readies (openings : ℕ) (settings : StationSettings) (s : Stage) (run : Run) (session : Session)
    (disk : Stopping MemDisk) : Type 0 where
  pub rests : AtRest (openings + 1) (opened s.is_open s).archive disk
  pub goes_on : SessionGoesOn settings s.archive.rows session disk
  pub rounds : run.rounds ≡ s.rounds
  pub written : run.written ≡ (opened s.is_open s).written
  pub none : run.session ≡ None

-- A round was begun with this host at this stage, which is open, so many openings made. The run is without its session.
pub record WasBegun (records openings : ℕ) (settings : StationSettings) (s : Stage) (fates : code_fates.Fates)
    (old : PlayedHost) (run : Run) : Type 0 where
  pub may : MayPlay records settings (fates_of fates) openings s old
  pub is_open : s.is_open ≡ true
  pub rounds : run.rounds ≡ s.rounds
  pub written : run.written ≡ s.written

-- the step is taken, its items are told, and the run stands where it leads
abbrev pub LeadsTo : {T : Type 0} → Telling T → ℕ → StationSettings → ReplayStep → Stage → Run → Stopping MemDisk → T
    → T → Type 0
LeadsTo telling openings settings x s run disk old new =
    (is : List Item) × (u : Stage) × Does settings x s is u × HoldsAt openings settings u run disk
    × telling.tells old is new

-- A round was told: the disk is at rest with the archive that it left, its session goes on unless it was stopped, and
-- all its rows are written, or so many as before.
pub record RoundIsTold (settings : StationSettings) (openings : ℕ) (r : Rounded) (a : Archive) (before : ℕ) (run : Run)
    (disk : Stopping MemDisk) : Type 0 where
  pub rests : AtRest openings a disk
  pub session : HasSession (not (is_stop r.end)) settings a.rows run.session disk
  pub written : run.written ≡ (if is_stop r.end then before else length a.rows)
