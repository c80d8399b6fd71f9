-- A whole run.
use Rattle.std.specs.Prelude.{◌≡◌, ℕ, ◌+◌, ◌==◌, ◌&&◌, ◌||◌, max, Bool, true, false}
use Rattle.std.specs.Prelude.{if◌then◌else◌, ◌⊎◌, List, [], ◌∷◌, ◌++◌, length, Some, None, nat_lt}
use Rattle.std.specs.declared.option.Option.{Option}
use Rattle.station_base.specs.declared.row.Row.{Row}
use Rattle.settings_file.specs.StationSettings.{StationSettings}
use Rattle.disk_model.specs.Picked.{picked_length}
use Rattle.loop_packet.specs.declared.packet.LoopPacket.{LoopPacket}
use Rattle.console_model.specs.Console.{fresh_console}
use Rattle.packed_rows.specs.Rising.{last_row_stamp}
use Rattle.station_session.specs.declared.round_end.RoundEnd.{RoundEnd}
use Rattle.station_session.specs.declared.round_end.RoundEnd.TheVariants as round_end
use Rattle.station_session.specs.Attempts.{MadeAttempt, AreAttempts, all_said}
use Rattle.station_session.specs.Batches.{Fit, kept_count, kept_records}
use Rattle.station_session.specs.Records.{stored_rows}
use Rattle.station_sim.specs.declared.unseen.Unseen.{Unseen}
use Rattle.schedule_file.specs.Fates.{FatesByNumber}
use Rattle.station_sim.specs.Line.{Line, waited}
use Rattle.station_sim.specs.Talk.{ConsoleTalk, idles, started}
use Rattle.gated_log.specs.Layout.{empty_size}
use Rattle.schedule_file.specs.declared.schedule.step.Stop.{Stop}
use Rattle.replay_laws.specs.Schedule.{ReplayStep}
use Rattle.schedule_file.specs.Lists.{no_fates}
use Rattle.replay_laws.specs.Keeping.{Archive, changes_in_an_opening}
use Rattle.replay_laws.specs.Round.{Ending, LineAttempt, AreLineAttempts, finished, made_attempts}
use Rattle.replay_laws.specs.Session.{NotPast, RoundStopsAt, RoundEndsAs, IsKnown, given_in, archive_left_after}

-- A round of a run.
pub record Rounded : Type 0 where
  pub number : ℕ
  pub tried : List LineAttempt
  pub end : Ending
  pub before : List Row
  -- the rows before the round, and those of the batches that it kept
  pub kept : List Row
  -- the rows that its end left: more than those only after a stop
  pub rows : List Row
  -- how many deliveries were harmed
  pub harmed : ℕ
  -- so many of the rows were printed before
  pub written : ℕ

-- what is printed of a run, item by item
pub data Item : Type 0 where
  -- a recovery: the rows that it found, so many of which were printed before
  Opened : (rows : List Row) → (written : ℕ) → Item
  -- a recovery within which the disk stopped, in this change, and the rows of the archive
  OpenStopped : (change : ℕ) → (rows : List Row) → Item
  -- a round
  Ran : (round : Rounded) → Item
  -- a round with an unseen delivery, of which nothing else is told
  Unsaid : (number : ℕ) → (which : Unseen) → Item
  -- the end
  Ended : (rows : List Row) → Item

-- where a run stands
pub record Stage : Type 0 where
  pub line : Line
  pub archive : Archive
  pub is_open : Bool
  pub rounds : ℕ
  pub written : ℕ

-- the run stands where it stood, but for its line
abbrev pub on_line : Stage → Line → Stage
on_line s w = record s { line = w }

-- What a recovery makes of an archive. It begins with a sync. A file no longer than an archive without slots is made
-- anew, by a write and a sync more.
abbrev pub archive_made_ready : Archive → Archive
archive_made_ready a = record a {
  size = max a.size empty_size;
  changes = a.changes + (if nat_lt empty_size a.size then 1 else changes_in_an_opening);
}

-- where a recovery leaves a run: the archive is open, and all of its rows are printed
abbrev pub recovered : Stage → Stage
recovered s = record s { archive = archive_made_ready s.archive; is_open = true; written = length s.archive.rows }

-- what is printed of a recovery: the rows that were not yet printed
abbrev pub opening : Stage → Item
opening s = Item.Opened s.archive.rows s.written

-- a session that is closed is opened first
abbrev pub opening_if_closed : Bool → Stage → List Item
opening_if_closed true s = []
opening_if_closed false s = opening s ∷ []

-- where a run stands with its archive open, by whether it was open before
abbrev pub opened : Bool → Stage → Stage
opened true s = s
opened false s = recovered s

-- Whether a stop of a recovery is reached, the file being so long. Change 1 of a recovery is a sync, and changes 2 and
-- 3 come only if the file is made anew.
abbrev pub stops_opening : ℕ → ℕ → Bool
stops_opening change size =
    change == 1 || ((change == 2 || change == 3) && (if nat_lt empty_size size then false else true))

-- what a stop that is reached leaves of an archive that is opened
abbrev pub cut_archive : Stop → Archive → Archive
cut_archive k a = record a {
  size = (if k.change == 1 then a.size
      else picked_length k.pick a.size empty_size);
  changes = a.changes + k.change;
}

-- where a stop within an opening leaves a run
abbrev pub cut_short : Stop → Stage → Stage
cut_short k s = record s { archive = cut_archive k s.archive; is_open = false }

-- a recovery on a disk that is to stop, by whether it begins the change of the stop
abbrev pub Opens : Bool → Stop → Stage → List Item → Stage → Type 0
Opens true k s is u = (is ≡ Item.OpenStopped k.change s.archive.rows ∷ []) × (u ≡ cut_short k s)
Opens false k s is u = (is ≡ opening s ∷ []) × (u ≡ recovered s)

-- whether a round ended by a stop
abbrev pub is_stop : Ending → Bool
is_stop (Ending.Stopped k) = true
is_stop other = false

-- where a round leaves a run, by whether it was stopped
abbrev pub after_round : Bool → Stage → Archive → Line → Stage
after_round true s a w = record s { line = w; archive = a; is_open = false; rounds = s.rounds + 1 }
after_round false s a w =
    record { line = w; archive = a; is_open = true; rounds = s.rounds + 1; written = length a.rows }

-- what a round of these attempts leaves of the archive of a stage
abbrev pub left_by_round : StationSettings → Option Stop → Stage → List MadeAttempt → Archive
left_by_round settings stop s ts = archive_left_after settings stop 0 s.archive (given_in s.archive ts)

-- A round without unseen delivery, from an open stage: a session's round over the line and a disk with the stop.
pub record IsRound (settings : StationSettings) (f : FatesByNumber) (left : ℕ → List (List ℕ)) (stop : Option Stop)
    (s : Stage) (r : Rounded) (u : Stage) : Type 0 where
  pub made : List MadeAttempt
  pub end : RoundEnd
  pub line : Line
  pub attempts : AreAttempts 0 (last_row_stamp s.archive.rows) made end
  -- each batch has room, but for one that is refused since the archive is full
  pub fits : Fit settings.most (length s.archive.rows) (given_in s.archive made)
  -- a fault of the disk is the stop, and no stop comes within the batches that were kept
  pub stops : RoundStopsAt stop end (kept_count (given_in s.archive made))
  pub ends : RoundEndsAs stop end r.end
  pub made_are : made_attempts r.tried ≡ made
  pub told : AreLineAttempts settings f s.archive.rows (started s.line) r.tried
      (left_by_round settings stop s made).rows line
  pub seen : line.unseen ≡ None
  pub is : r ≡ record {
    number = s.rounds + 1;
    tried = r.tried;
    end = r.end;
    before = s.archive.rows;
    kept = s.archive.rows ++ stored_rows settings (kept_records (given_in s.archive made));
    rows = (left_by_round settings stop s made).rows;
    harmed = line.harmed;
    written = s.written;
  }
  pub next : u ≡ after_round (is_stop r.end) s (left_by_round settings stop s made) (finished left line)

-- one step: the items that it gives, and where it leaves the run
abbrev pub Does : StationSettings → ReplayStep → Stage → List Item → Stage → Type 0
Does settings (ReplayStep.Due rs) s is u = (is ≡ []) × (u ≡ on_line s (waited rs s.line))
Does settings (ReplayStep.Idle n) s is u = (is ≡ []) × (u ≡ on_line s (idles no_fates n s.line))
Does settings (ReplayStep.Open None) s is u = (is ≡ opening s ∷ []) × (u ≡ recovered s)
Does settings (ReplayStep.Open (Some k)) s is u = Opens (stops_opening k.change s.archive.size) k s is u
Does settings (ReplayStep.Round f left stop) s is u = (r : Rounded)
    × IsRound settings f left stop (opened s.is_open s) r u × (is ≡ opening_if_closed s.is_open s ++ Item.Ran r ∷ [])

-- the steps one after another: the items that they give, and where they leave the run
abbrev pub Runs : StationSettings → List ReplayStep → Stage → List Item → Stage → Type 0
Runs settings [] s is u = (is ≡ []) × (u ≡ s)
Runs settings (x ∷ xs) s is u = (mid : Stage) × (now : List Item) × (rest : List Item) × (is ≡ now ++ rest)
    × Does settings x s now mid × Runs settings xs mid rest u

-- A round with an unseen delivery. It ends as a round of a run does, by a flood, or by a disk fault that is no stop.
pub record IsUnseenRound (settings : StationSettings) (f : FatesByNumber) (stop : Option Stop) (s : Stage) (i : Item)
    : Type 0 where
  pub tried : List MadeAttempt
  pub end : RoundEnd
  pub line : Line
  pub attempts : AreAttempts 0 (last_row_stamp s.archive.rows) tried end
  pub talks : ConsoleTalk f (all_said tried) (started s.line) line
  -- each batch has room, but for one that is refused since the archive is full
  pub fits : Fit settings.most (length s.archive.rows) (given_in s.archive tried)
  -- no stop comes within the batches that were kept
  pub not_past : NotPast stop (kept_count (given_in s.archive tried))
  pub ends : IsKnown end ⊎ (end ≡ round_end.Flood)
  pub which : Unseen
  pub unseen : line.unseen ≡ Some which
  pub is : i ≡ Item.Unsaid (s.rounds + 1) which

-- at the end a session that is closed is opened, and the days are printed
abbrev pub closing_items : Stage → List Item
closing_items s = opening_if_closed s.is_open s ++ Item.Ended s.archive.rows ∷ []

-- a console that was just switched on, nothing in the file, nothing open
abbrev pub start : List ℕ → LoopPacket → Stage
start eeprom packet = record {
  line = record {
    console = fresh_console eeprom packet;
    begun = [];
    flight = [];
    messages = 0;
    replies = 0;
    dumps = [];
    harmed = 0;
    unseen = None;
  };
  archive = record { rows = []; size = 0; changes = 0 };
  is_open = false;
  rounds = 0;
  written = 0;
}

-- These are the items of a whole schedule, from this stage.
pub record IsWhole (settings : StationSettings) (from : Stage) (steps : List ReplayStep) (items : List Item)
    : Type 0 where
  pub given : List Item
  pub last : Stage
  pub runs : Runs settings steps from given last
  pub items_are : items ≡ given ++ closing_items last

-- The items of a run up to a round with an unseen delivery.
pub record IsUnseen (settings : StationSettings) (from : Stage) (steps : List ReplayStep) (items : List Item)
    : Type 0 where
  pub before : List ReplayStep
  pub behind : List ReplayStep
  pub fates : FatesByNumber
  pub left : ℕ → List (List ℕ)
  pub stop : Option Stop
  pub steps_are : steps ≡ before ++ ReplayStep.Round fates left stop ∷ behind
  pub given : List Item
  pub last : Stage
  pub runs : Runs settings before from given last
  pub unsaid : Item
  pub broken : IsUnseenRound settings fates stop (opened last.is_open last) unsaid
  pub items_are : items ≡ given ++ (opening_if_closed last.is_open last ++ unsaid ∷ [])

-- these are the items of a whole schedule, or those up to a round with an unseen delivery
abbrev pub IsReplay : StationSettings → Stage → List ReplayStep → List Item → Type 0
IsReplay settings s steps o = IsWhole settings s steps o ⊎ IsUnseen settings s steps o

-- the items of a whole run, or up to a round with an unseen delivery, by whether there was one
abbrev pub IsReplayBy : Bool → StationSettings → Stage → List ReplayStep → List Item → Type 0
IsReplayBy true settings s steps o = IsUnseen settings s steps o
IsReplayBy false settings s steps o = IsWhole settings s steps o

-- whether a session that is closed is opened next
abbrev pub OpensNext : List ReplayStep → Type 0
OpensNext (ReplayStep.Round f left stop ∷ ys) = Unit {0}
OpensNext [] = Unit {0}
OpensNext (other ∷ ys) = ⊥

-- The items of a run up to some step, or up to a recovery before the next one. What would come behind them is not said.
pub record RunIsBegun (settings : StationSettings) (from : Stage) (steps : List ReplayStep) (items : List Item)
    : Type 0 where
  pub before : List ReplayStep
  pub behind : List ReplayStep
  pub steps_are : steps ≡ before ++ behind
  pub given : List Item
  pub last : Stage
  pub runs : Runs settings before from given last
  pub items_are : (items ≡ given) ⊎ (OpensNext behind × (items ≡ given ++ opening_if_closed last.is_open last))
