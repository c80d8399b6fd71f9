-- What a round over the modelled line and a disk that stops comes to.
use Rattle.std.specs.Prelude.{◌≡◌, ◌≢◌, ℕ, ◌+◌, ◌*◌, ◌≤◌, false, List, ◌++◌, length, Some, None}
use Rattle.std.specs.declared.option.Option.{Option}
use Rattle.settings_file.specs.StationSettings.{StationSettings}
use Rattle.disk_model.specs.declared.mem_disk.MemDisk.{MemDisk}
use Rattle.disk_model.specs.declared.stopping.Stopping.{Stopping}
use Rattle.packed_rows.specs.Rising.{last_row_stamp}
use Rattle.station_session.specs.declared.round_end.RoundEnd.{RoundEnd}
use Rattle.station_session.specs.declared.round_end.RoundEnd.TheVariants as round_end
use Rattle.station_session.specs.declared.session.Session.{Session}
use Rattle.station_session.specs.Attempts.{MadeAttempt, AreAttempts, all_said, page_count, skip_count}
use Rattle.station_session.specs.Batches.{Fit}
use Rattle.station_session.specs.Report.{acked}
use Rattle.station_session.specs.Round.{RoundHost}
use Rattle.station_sim.specs.declared.sim.Sim.{Sim}
use Rattle.station_sim.specs.declared.unseen.Unseen.{Unseen}
use Rattle.gated_log.specs.Calls.{changes_in_a_batch}
use Rattle.schedule_file.specs.Fates.{FatesByNumber}
use Rattle.schedule_file.specs.Limits.{most_turns}
use Rattle.station_sim.specs.Line.{Line}
use Rattle.station_sim.specs.Standing.{SimStandsFor}
use Rattle.station_sim.specs.Talk.{ConsoleTalk, started}
use Rattle.replay_laws.specs.Keeping.{Archive}
use Rattle.schedule_file.specs.declared.schedule.step.Stop.{Stop}
use Rattle.replay_laws.specs.Replay.{Item, Rounded, Stage, IsRound, IsUnseenRound, is_stop}
use Rattle.replay_laws.specs.Room.{AreFew, changes_of_turns}
use Rattle.replay_laws.specs.Session.{RoundEndsAs, given_in}
use Rattle.replay_laws.specs.Round.{made_attempts}
use Rattle.round_play.specs.declared.playing.Played.{Played}
use Rattle.round_play.specs.Opening.{stopping_limits}
use Rattle.round_play.specs.Resting.{AtRest, SessionGoesOn, IsRoomFor}

-- a session with the line and the disk of a run
abbrev pub PlayedHost : Type 0
PlayedHost = RoundHost Sim (Stopping MemDisk)

-- Whatever the attempts of a round behind this archive, no delivery being unseen, where neither the link nor want of
-- memory ended it: it does not flood, and with all that it was given there would be no more rows than records.
abbrev pub RoundIsCounted : ℕ → StationSettings → FatesByNumber → Stage → Type 0
RoundIsCounted records settings f s =
    (v : Line) (ts : List MadeAttempt) (end : RoundEnd) → AreAttempts 0 (last_row_stamp s.archive.rows) ts end
    → Fit settings.most (length s.archive.rows) (given_in s.archive ts) → ConsoleTalk f (all_said ts) (started s.line) v
    → end ≢ round_end.LinkFault → end ≢ round_end.OutOfMemory → end ≢ round_end.Stale → v.unseen ≡ None
    → (end ≢ round_end.Flood) × AreFew records s.archive.rows (given_in s.archive ts)

-- A session, a line and a disk stand where a run of so many records stands before a round, so many openings made. There
-- is room for the changes of a batch that a stop cuts short in this round, too.
pub record MayPlay (records : ℕ) (settings : StationSettings) (f : FatesByNumber) (openings : ℕ) (s : Stage)
    (host : PlayedHost) : Type 0 where
  pub line : SimStandsFor host.link s.line
  pub disk : AtRest openings s.archive host.disk
  pub session : SessionGoesOn settings s.archive.rows host.session host.disk
  pub room : IsRoomFor records (stopping_limits host.disk)
  pub counted : RoundIsCounted records settings f s
  pub changes : s.archive.changes + changes_in_a_batch ≤ changes_in_a_batch * length s.archive.rows + changes_of_turns
  pub few : openings ≤ most_turns + 1

-- What is told of a round is what it was.
pub record PlayedTells (stop : Option Stop) (played : Played) (r : Rounded) : Type 0 where
  pub attempts : played.report.attempts ≡ length r.tried
  pub pages : played.report.tally.pages ≡ page_count (made_attempts r.tried)
  pub skipped : played.report.tally.skipped ≡ skip_count (made_attempts r.tried)
  pub acked_are : acked played.report ≡ length r.kept
  pub harmed : played.harmed ≡ r.harmed
  pub ends : RoundEndsAs stop played.end r.end

-- A round without unseen delivery: what it was is told, and the line, the disk and the session stand where it leaves
-- the run.
pub record IsPlayedOut (settings : StationSettings) (f : FatesByNumber) (left : ℕ → List (List ℕ)) (stop : Option Stop)
    (openings : ℕ) (s : Stage) (old : PlayedHost) (played : Played) (new : PlayedHost) : Type 0 where
  pub round : Rounded
  pub next : Stage
  pub is_round : IsRound settings f left stop s round next
  pub tells : PlayedTells stop played round
  pub said : new.link.talk.items ≡ old.link.talk.items ++ all_said (made_attempts round.tried)
  pub line : SimStandsFor new.link next.line
  pub disk : AtRest openings next.archive new.disk
  pub limits : stopping_limits new.disk ≡ stopping_limits old.disk
  pub session : is_stop round.end ≡ false → SessionGoesOn settings next.archive.rows new.session new.disk

-- by whether a delivery was unseen
abbrev pub PlaysBy : Option Unseen → StationSettings → FatesByNumber → (ℕ → List (List ℕ)) → Option Stop → ℕ → Stage
    → PlayedHost → Played → PlayedHost → Type 0
PlaysBy None settings f left stop openings s old played new =
    IsPlayedOut settings f left stop openings s old played new
PlaysBy (Some which) settings f left stop openings s old played new =
    IsUnseenRound settings f stop s (Item.Unsaid (s.rounds + 1) which)

-- What is told of a round is what it was, the disk is at rest with the archive that it left, and unless it was stopped
-- its session goes on.
pub record IsToldOf (settings : StationSettings) (openings : ℕ) (stop : Option Stop) (session : Session)
    (played : Played) (disk : Stopping MemDisk) (r : Rounded) (a : Archive) : Type 0 where
  pub tells : PlayedTells stop played r
  pub rests : AtRest openings a disk
  pub rows : a.rows ≡ r.rows
  pub goes_on : is_stop r.end ≡ false → SessionGoesOn settings r.rows session disk

-- there is such a round
abbrev pub IsTellable : Option Stop → Session → Played → Stopping MemDisk → Type 0
IsTellable stop session played disk =
    (settings : StationSettings) × (openings : ℕ) × (r : Rounded) × (a : Archive)
    × IsToldOf settings openings stop session played disk r a
