-- An archive that was opened ahead of the next step.
use Rattle.std.proofs.Common.{◌≡◌, ℕ, ◌+◌, ◌≤◌, Bool, true, false, List, Option, Some, None, Result, Ok, Err, OnOk, OnErr, refl, sym, ◌∙◌, ap, subst, arith}
use Rattle.station_base.specs.declared.row.Row.{Row}
use Rattle.settings_file.specs.StationSettings.{StationSettings}
use Rattle.disk_model.specs.declared.mem_disk.MemDisk.{MemDisk}
use Rattle.disk_model.specs.declared.stopping.Stopping.{Stopping}
use Rattle.station_session.specs.declared.session.Session.{Session}
use Rattle.schedule_file.specs.declared.fates.Fates as code_fates
use Rattle.schedule_file.specs.declared.schedule.step.Stop.{Stop}
use Rattle.station_sim.specs.declared.sim.Sim.{Sim}
use Rattle.station_sim.specs.declared.unseen.Unseen.{Unseen}
use Rattle.schedule_file.specs.Fates.{FatesByNumber}
use Rattle.replay_laws.specs.Replay.{IsUnseenRound, Item, Stage, opening_if_closed, opened}
use Rattle.schedule_replay.specs.declared.cut.Cut.{Cut}
use Rattle.round_play.specs.declared.playing.Played.{Played}
use Rattle.schedule_replay.specs.declared.run.Run.{Run}
use Rattle.schedule_replay.specs.Left.{left_to_open}
use Rattle.round_play.specs.Opening.{stopping_limits}
use Rattle.round_play.specs.Played.{PlayedHost, IsPlayedOut}
use Rattle.round_play.specs.Resting.{SessionGoesOn}
use Rattle.schedule_replay.specs.Running.{After}
use Rattle.schedule_replay.specs.Standing.{HasSaid, HasSession, HoldsAt, LineAt, Readies, round_step}
use Rattle.schedule_replay.specs.Telling.{Telling}
use Rattle.schedule_replay.proofs.RoundLaws.{opened_rounds, opened_rows}

pub ok_of : {P : Type 0} (r : Result (Unit {0}) Cut) → r ≡ Ok tt → OnOk r P → P
ok_of {P} (Ok x) is p = p
ok_of {P} (Err e) is p = absurd cc

pub err_of : {P : Type 0} (r : Result (Unit {0}) Cut) (cut : Cut) → r ≡ Err cut → OnErr r P → P
err_of {P} (Ok x) cut is p = absurd cc
err_of {P} (Err e) cut is p = p

pub few_to_open : (o : Option Session) → left_to_open o ≤ 1
few_to_open None = omega arith
few_to_open (Some x) = omega arith

opened_open : (t : Bool) (s : Stage) → s.is_open ≡ t → (opened t s).is_open ≡ true
opened_open true s is = is
opened_open false s is = refl

-- it is open then
pub is_opened : (s : Stage) → (opened s.is_open s).is_open ≡ true
is_opened s = opened_open s.is_open s refl

-- a run that is ready goes on with its session
pub holds_ready : (openings : ℕ) (settings : StationSettings) (s : Stage) (run : Run) (session : Session) (disk : Stopping MemDisk) → Readies openings settings s run session disk
    → HoldsAt (openings + 1) settings (opened s.is_open s) (record { session = Some session; rounds = run.rounds; written = run.written }) disk
holds_ready openings settings s run session disk r = record {
  rests = r.rests;
  session = subst (λ (t : Bool). HasSession t settings (opened s.is_open s).archive.rows (Some session) disk) (sym (is_opened s)) (subst (λ (z : List Row). SessionGoesOn settings z session disk) (sym (opened_rows s.is_open s)) r.goes_on);
  rounds = r.rounds ∙ sym (opened_rounds s.is_open s);
  written = r.written;
}

-- an open archive is opened at once, with nothing told
pub none_first : {T : Type 0} (telling : Telling T) (s : Stage) (a : T) → s.is_open ≡ true → telling.tells a (opening_if_closed s.is_open s) a
none_first telling s a is = subst (λ (z : List Item). telling.tells a z a) (ap (λ (t : Bool). opening_if_closed t s) (sym is)) (telling.tells_none a)

pub played_opened : (settings : StationSettings) (f : FatesByNumber) (left : ℕ → List (List ℕ)) (stop : Option Stop) (openings : ℕ) (s : Stage) (old : PlayedHost) (played : Played) (new : PlayedHost) → s.is_open ≡ true
    → IsPlayedOut settings f left stop openings s old played new → IsPlayedOut settings f left stop openings (opened s.is_open s) old played new
played_opened settings f left stop openings s old played new is o = subst (λ (u : Stage). IsPlayedOut settings f left stop openings u old played new) (ap (λ (t : Bool). opened t s) (sym is)) o

pub broken_opened : (settings : StationSettings) (f : FatesByNumber) (stop : Option Stop) (s : Stage) (which : Unseen) → s.is_open ≡ true
    → IsUnseenRound settings f stop s (Item.Unsaid (s.rounds + 1) which) → IsUnseenRound settings f stop (opened s.is_open s) (Item.Unsaid ((opened s.is_open s).rounds + 1) which)
broken_opened settings f stop s which is b = subst (λ (u : Stage). IsUnseenRound settings f stop u (Item.Unsaid (u.rounds + 1) which)) (ap (λ (t : Bool). opened t s) (sym is)) b

pub with_limits : {T : Type 0} (telling : Telling T) (openings : ℕ) (settings : StationSettings) (fates : code_fates.Fates) (stop : Option Stop) (s : Stage) (before line : Sim) (made disk : Stopping MemDisk) (run : Run) (a b : T) → stopping_limits disk ≡ stopping_limits made
    → After telling false settings (round_step fates stop) s (λ is u. HoldsAt openings settings u run disk × LineAt u line × HasSaid is before line) a b
    → After telling false settings (round_step fates stop) s (λ is u. (HoldsAt openings settings u run disk × LineAt u line × HasSaid is before line) × (stopping_limits disk ≡ stopping_limits made)) a b
with_limits telling openings settings fates stop s before line made disk run a b limits (is, u, does, holds, told) = (is, u, does, (holds, limits), told)
