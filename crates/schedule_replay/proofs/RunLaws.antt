-- What the works of a run come to at a stage.
use Rattle.std.proofs.Common.{◌≡◌, ℕ, ◌+◌, Bool, true, false, not, if◌then◌else◌, List, [], ◌∷◌, length, Option, Some, None, Result, Ok, Err, OnOk, OnErr, refl, sym, ◌∙◌, ap, subst, arith, inl}
use Rattle.station_base.specs.declared.row.Row.{Row}
use Rattle.settings_file.specs.StationSettings.{StationSettings}
use Rattle.disk_model.specs.declared.mem_disk.MemDisk.{MemDisk}
use Rattle.disk_model.specs.declared.stopping.Stopping.{Stopping}
use Rattle.station_session.specs.declared.session.Session.{Session}
use Rattle.station_session.specs.Report.{acked}
use Rattle.replay_laws.specs.Keeping.{Archive}
use Rattle.replay_laws.specs.Round.{Ending}
use Rattle.schedule_file.specs.declared.schedule.step.Stop.{Stop}
use Rattle.replay_laws.specs.Replay.{Does, Item, Opens, Stage, cut_archive, cut_short, opening_if_closed, archive_made_ready, opened, opening, recovered, stops_opening, is_stop, Rounded}
use Rattle.schedule_replay.specs.declared.cut.Cut.{Cut}
use Rattle.schedule_replay.specs.declared.cut.Cut.TheVariants.{WriteFault, OutOfMemory}
use Rattle.round_play.specs.declared.playing.Played.{Played}
use Rattle.schedule_replay.specs.declared.round_line.RoundLine.{RoundLine}
use Rattle.schedule_replay.specs.declared.run.Run.{Run}
use Rattle.round_play.specs.Played.{IsToldOf, PlayedTells}
use Rattle.schedule_replay.specs.RoundLine.{ending_of, RoundLineTells}
use Rattle.round_play.specs.Opening.{IsOpened, OpensBy}
use Rattle.schedule_replay.specs.Running.{StepIsCut}
use Rattle.round_play.specs.Resting.{AtRest, SessionGoesOn}
use Rattle.schedule_replay.specs.Standing.{HasSession, HoldsAt, RoundIsTold, MayOpen, Readies, open_step}
use Rattle.schedule_replay.specs.Telling.{Telling, TellsAll}
use Rattle.schedule_replay.specs.Writing.{IsOnlyRead, IsReadable}

-- a telling that failed told a front
pub told_front : {T : Type 0} (telling : Telling T) (old new : T) (items : List Item) (cut : Cut) → TellsAll telling old items (Err cut) new → telling.breaks_off old items new
told_front telling old new items WriteFault told = told
told_front telling old new items OutOfMemory told = absurd told

-- a run without a session is closed, and one with a session goes on with it
pub closed_by : (t : Bool) (settings : StationSettings) (rows : List Row) (o : Option Session) (disk : Stopping MemDisk) → HasSession t settings rows o disk → o ≡ None → t ≡ false
closed_by true settings rows None disk h is = absurd h
closed_by true settings rows (Some x) disk h is = absurd cc
closed_by false settings rows o disk h is = refl

goes_on_by : (t : Bool) (settings : StationSettings) (rows : List Row) (session : Session) (disk : Stopping MemDisk) → HasSession t settings rows (Some session) disk → (t ≡ true) × SessionGoesOn settings rows session disk
goes_on_by true settings rows session disk h = (refl, h)
goes_on_by false settings rows session disk h = absurd h

pub open_by : (t : Bool) (settings : StationSettings) (rows : List Row) (o : Option Session) (session : Session) (disk : Stopping MemDisk) → HasSession t settings rows o disk → o ≡ Some session → (t ≡ true) × SessionGoesOn settings rows session disk
open_by t settings rows o session disk h is = goes_on_by t settings rows session disk (subst (λ (z : Option Session). HasSession t settings rows z disk) is h)

-- so many openings more have room in what is left
pub rest_on : (openings k : ℕ) (a : Archive) (disk : Stopping MemDisk) → AtRest openings a disk → AtRest (openings + k) a disk
rest_on openings k a disk r = record {
  rests = r.rests;
  unarmed = r.unarmed;
  image = r.image;
  seen = r.seen;
  synced = r.synced;
  length_is = r.length_is;
  rows = r.rows;
  durable = r.durable;
  left = r.left;
  room = record { changes = r.room.changes; bytes = omega (arith, r.room.bytes) };
}

pub rest_more : (openings : ℕ) (a : Archive) (disk : Stopping MemDisk) → AtRest openings a disk → AtRest (openings + 1) a disk
rest_more openings a disk r = rest_on openings 1 a disk r

pub may_tell : (settings : StationSettings) (run : Run) (disk now : Stopping MemDisk) (session : Session) → MayOpen settings run disk
    → ((openings : ℕ) (a : Archive) → AtRest openings a disk → IsOpened settings openings a session now) → IsReadable session now
may_tell settings run disk now session (n, s, holds, can) opens =
    let x = opens n s.archive holds.rests in
    record { openings = n + 1; archive = archive_made_ready s.archive; settings = settings; rows = s.archive.rows; rests = x.0; goes_on = x.1 }

-- what an opening of a closed run tells
pub opens_told : {T : Type 0} (telling : Telling T) (s : Stage) (old new : T) → s.is_open ≡ false → telling.tells old (opening s ∷ []) new → telling.tells old (opening_if_closed s.is_open s) new
opens_told telling s old new closed told = subst (λ (t : Bool). telling.tells old (opening_if_closed t s) new) (sym closed) told

pub opens_front : {T : Type 0} (telling : Telling T) (s : Stage) (old new : T) → s.is_open ≡ false → telling.breaks_off old (opening s ∷ []) new → telling.breaks_off old (opening_if_closed s.is_open s) new
opens_front telling s old new closed told = subst (λ (t : Bool). telling.breaks_off old (opening_if_closed t s) new) (sym closed) told

stage_closed : (s : Stage) → s.is_open ≡ false → opened s.is_open s ≡ recovered s
stage_closed s closed = ap (λ (t : Bool). opened t s) closed

-- a closed run is ready behind its opening
pub readies_closed : (openings : ℕ) (settings : StationSettings) (s : Stage) (run : Run) (session : Session) (disk : Stopping MemDisk) → s.is_open ≡ false → AtRest (openings + 1) (archive_made_ready s.archive) disk → SessionGoesOn settings s.archive.rows session disk
    → run.rounds ≡ s.rounds → run.written ≡ length s.archive.rows → run.session ≡ None → Readies openings settings s run session disk
readies_closed openings settings s run session disk closed rests goes rounds written none =
    let e = stage_closed s closed in
    record {
      rests = subst (λ (u : Stage). AtRest (openings + 1) u.archive disk) (sym e) rests;
      goes_on = goes;
      rounds = rounds;
      written = written ∙ ap (λ (u : Stage). u.written) (sym e);
      none = none;
    }

-- and an open one at once
pub readies_open : (openings : ℕ) (settings : StationSettings) (s : Stage) (run : Run) (session : Session) (disk : Stopping MemDisk) → s.is_open ≡ true → AtRest openings s.archive disk → SessionGoesOn settings s.archive.rows session disk
    → run.rounds ≡ s.rounds → run.written ≡ s.written → run.session ≡ None → Readies openings settings s run session disk
readies_open openings settings s run session disk is rests goes rounds written none =
    let e : opened s.is_open s ≡ s = ap (λ (t : Bool). opened t s) is in
    record {
      rests = subst (λ (u : Stage). AtRest (openings + 1) u.archive disk) (sym e) (rest_more openings s.archive disk rests);
      goes_on = goes;
      rounds = rounds;
      written = written ∙ ap (λ (u : Stage). u.written) (sym e);
      none = none;
    }

pub on_ok : {P : Type 0} (r : Result (Unit {0}) Cut) → (r ≡ Ok tt → P) → OnOk r P
on_ok {P} (Ok x) f = f refl
on_ok {P} (Err e) f = tt

pub on_err : {P : Type 0} (r : Result (Unit {0}) Cut) → ((cut : Cut) → r ≡ Err cut → P) → OnErr r P
on_err {P} (Ok x) f = tt
on_err {P} (Err e) f = f e refl

pub told_all : {T : Type 0} (telling : Telling T) (old new : T) (items : List Item) (r : Result (Unit {0}) Cut) → r ≡ Ok tt → TellsAll telling old items r new → telling.tells old items new
told_all telling old new items r is told = subst (λ (z : Result (Unit {0}) Cut). TellsAll telling old items z new) is told

pub told_less : {T : Type 0} (telling : Telling T) (old new : T) (items : List Item) (r : Result (Unit {0}) Cut) (cut : Cut) → r ≡ Err cut → TellsAll telling old items r new → telling.breaks_off old items new
told_less telling old new items r cut is told = told_front telling old new items cut (subst (λ (z : Result (Unit {0}) Cut). TellsAll telling old items z new) is told)

pub ready_readable : (openings : ℕ) (settings : StationSettings) (s : Stage) (run : Run) (session : Session) (disk : Stopping MemDisk) → Readies openings settings s run session disk → IsReadable session disk
ready_readable openings settings s run session disk r =
    record { openings = openings + 1; archive = (opened s.is_open s).archive; settings = settings; rows = s.archive.rows; rests = r.rests; goes_on = r.goes_on }

-- a stage with its session closed
abbrev pub closed_stage : Stage → Stage
closed_stage s = record s { is_open = false }

pub holds_closed : (openings : ℕ) (settings : StationSettings) (s : Stage) (run : Run) (disk : Stopping MemDisk) → HoldsAt openings settings s run disk
    → HoldsAt openings settings (closed_stage s) (record { session = None; rounds = run.rounds; written = run.written }) disk
holds_closed openings settings s run disk h = record { rests = h.rests; session = tt; rounds = h.rounds; written = h.written }

opened_by : (t : Bool) (settings : StationSettings) (stop : Stop) (n : ℕ) (a : Archive) (session : Session) (disk : Stopping MemDisk) → OpensBy t settings stop n a (Some session) disk → (t ≡ false) × IsOpened settings n a session disk
opened_by true settings stop n a session disk h = absurd (let e : Some session ≡ None = h.0 in cc)
opened_by false settings stop n a session disk h = (refl, h)

pub opens_some : (t : Bool) (settings : StationSettings) (stop : Stop) (n : ℕ) (a : Archive) (o : Option Session) (session : Session) (disk : Stopping MemDisk) → OpensBy t settings stop n a o disk → o ≡ Some session → (t ≡ false) × IsOpened settings n a session disk
opens_some t settings stop n a o session disk h is = opened_by t settings stop n a session disk (subst (λ (z : Option Session). OpensBy t settings stop n a z disk) is h)

pub opens_none : (t : Bool) (settings : StationSettings) (stop : Stop) (n : ℕ) (a : Archive) (o : Option Session) (disk : Stopping MemDisk) → OpensBy t settings stop n a o disk → o ≡ None → (t ≡ true) × AtRest (n + 1) (cut_archive stop a) disk
opens_none true settings stop n a o disk h is = (refl, h.1)
opens_none false settings stop n a None disk h is = absurd h
opens_none false settings stop n a (Some x) disk h is = absurd cc

pub does_plainly : (settings : StationSettings) (s : Stage) (stop : Option Stop) → stop ≡ None → Does settings (open_step stop) s (opening s ∷ []) (recovered s)
does_plainly settings s None is = (refl, refl)
does_plainly settings s (Some k) is = absurd cc

pub does_open : (settings : StationSettings) (s : Stage) (stop : Option Stop) (k : Stop) → stop ≡ Some k → stops_opening k.change s.archive.size ≡ false → Does settings (open_step stop) s (opening s ∷ []) (recovered s)
does_open settings s None k is t = absurd cc
does_open settings s (Some x) k is t =
    let e : x ≡ k = cc in
    subst (λ (z : Bool). Opens z x s (opening s ∷ []) (recovered s)) (sym (ap (λ (y : Stop). stops_opening y.change s.archive.size) e ∙ t)) (refl, refl)

pub does_stop : (settings : StationSettings) (s : Stage) (stop : Option Stop) (k : Stop) → stop ≡ Some k → stops_opening k.change s.archive.size ≡ true → Does settings (open_step stop) s (Item.OpenStopped k.change s.archive.rows ∷ []) (cut_short k s)
does_stop settings s None k is t = absurd cc
does_stop settings s (Some x) k is t =
    let e : x ≡ k = cc in
    subst (λ (y : Stop). Opens (stops_opening y.change s.archive.size) y s (Item.OpenStopped k.change s.archive.rows ∷ []) (cut_short k s)) (sym e)
    (subst (λ (z : Bool). Opens z k s (Item.OpenStopped k.change s.archive.rows ∷ []) (cut_short k s)) (sym t) (refl, refl))

-- an opening whose telling failed
pub open_cut : {T : Type 0} (telling : Telling T) (settings : StationSettings) (s u : Stage) (stop : Option Stop) (i : Item) (old new : T) → Does settings (open_step stop) s (i ∷ []) u → telling.breaks_off old (i ∷ []) new → StepIsCut telling settings (open_step stop) s old new
open_cut telling settings s u stop i old new does told = inl (i ∷ [], u, does, told)

-- what is told of a round in its line
pub line_tells : (stop : Option Stop) (played : Played) (line : RoundLine) (r : Rounded) (known : Ending) → ending_of line.end ≡ known → PlayedTells stop played r → r.end ≡ known → r.number ≡ line.number → played.report.attempts ≡ line.attempts → played.report.tally.pages ≡ line.pages → played.report.tally.skipped ≡ line.skipped
    → played.harmed ≡ line.harmed → acked played.report ≡ line.acked → (is_stop r.end ≡ false → length r.rows ≡ line.rows) → (written : ℕ) → r.written ≡ written → RoundLineTells line written r
line_tells stop played line r known ending tells end number attempts pages skipped harmed acked_is rows written written_is = record {
  number = number;
  end = end ∙ sym ending;
  attempts = sym tells.attempts ∙ attempts;
  pages = sym tells.pages ∙ pages;
  skipped = sym tells.skipped ∙ skipped;
  harmed = sym tells.harmed ∙ harmed;
  acked = sym tells.acked_are ∙ acked_is;
  rows = rows;
  written_is = written_is;
}

-- an unstopped round that was told
pub told_on : (settings : StationSettings) (openings : ℕ) (stop : Option Stop) (session : Session) (played : Played) (disk now : Stopping MemDisk) (r : Rounded) (a : Archive) (before rounds written : ℕ) → IsToldOf settings openings stop session played disk r a → IsOnlyRead disk now → is_stop r.end ≡ false
    → written ≡ length a.rows → RoundIsTold settings openings r a before (record { session = Some session; rounds = rounds; written = written }) now
told_on settings openings stop session played disk now r a before rounds written told read still is = record {
  rests = read.rests openings a told.rests;
  session = subst (λ (t : Bool). HasSession (not t) settings a.rows (Some session) now) (sym still) (read.goes_on settings a.rows session (subst (λ (z : List Row). SessionGoesOn settings z session disk) (sym told.rows) (told.goes_on still)));
  written = is ∙ ap (λ (t : Bool). if t then before else length a.rows) (sym still);
}
