-- What a step of a run that makes no round comes to at a stage.
use Rattle.std.proofs.Common.{◌≡◌, ℕ, ◌+◌, ◌⊎◌, Bool, true, false, List, [], ◌++◌, Option, Some, None, refl, sym, ◌∙◌, ap, subst, append-nil, inl, inr}
use Rattle.archive_record.specs.declared.record.Rec52.{Rec52}
use Rattle.settings_file.specs.StationSettings.{StationSettings}
use Rattle.disk_model.specs.declared.mem_disk.MemDisk.{MemDisk}
use Rattle.disk_model.specs.declared.stopping.Stopping.{Stopping}
use Rattle.schedule_file.specs.declared.schedule.step.Step as code_step
use Rattle.schedule_file.specs.declared.schedule.step.Step.TheVariants as code
use Rattle.schedule_file.specs.declared.schedule.step.Stop.{Stop}
use Rattle.station_sim.specs.declared.sim.Sim.{Sim}
use Rattle.schedule_file.specs.Lists.{fates_of}
use Rattle.station_sim.specs.Standing.{SimStandsFor}
use Rattle.replay_laws.specs.Replay.{Does, Item, Opens, Stage, on_line, stops_opening}
use Rattle.replay_laws.specs.Schedule.{ReplayStep}
use Rattle.schedule_replay.specs.declared.run.Run.{Run}
use Rattle.schedule_replay.specs.Running.{After, StepIsCut}
use Rattle.schedule_replay.specs.Standing.{HasSaid, HoldsAt, LeadsTo, LineAt, open_step, said_in}
use Rattle.schedule_steps.specs.Steps.{passed, step_of}
use Rattle.schedule_replay.specs.Telling.{Telling}
use Rattle.schedule_replay.proofs.RunLaws.{rest_on}

-- an opening says nothing, and leaves the line
opens_still : (t : Bool) (k : Stop) (s : Stage) (is : List Item) (u : Stage) → Opens t k s is u → (u.line ≡ s.line) × (said_in is ≡ [])
opens_still true k s is u (i, e) = (ap (λ (v : Stage). v.line) e, ap said_in i)
opens_still false k s is u (i, e) = (ap (λ (v : Stage). v.line) e, ap said_in i)

open_still : (settings : StationSettings) (stop : Option Stop) (s : Stage) (is : List Item) (u : Stage) → Does settings (open_step stop) s is u → (u.line ≡ s.line) × (said_in is ≡ [])
open_still settings None s is u (i, e) = (ap (λ (v : Stage). v.line) e, ap said_in i)
open_still settings (Some k) s is u h = opens_still (stops_opening k.change s.archive.size) k s is u h

said_none : (line now : Sim) (is : List Item) → now.talk.items ≡ line.talk.items → said_in is ≡ [] → HasSaid is line now
said_none line now is talk e = talk ∙ sym (append-nil line.talk.items) ∙ ap (λ z. line.talk.items ++ z) (sym e)

pub open_after : {T : Type 0} (telling : Telling T) (openings : ℕ) (settings : StationSettings) (stop : Option Stop) (s : Stage) (run : Run) (line : Sim) (disk : Stopping MemDisk) (old new : T) → LineAt s line → LeadsTo telling openings settings (open_step stop) s run disk old new
    → After telling false settings (open_step stop) s (λ is u. HoldsAt openings settings u run disk × LineAt u line × HasSaid is line line) old new
open_after telling openings settings stop s run line disk old new l (is, u, does, holds, w) =
    let e = open_still settings stop s is u does in
    (is, u, does, (holds, record { stands = subst (SimStandsFor line) (sym e.0) l.stands; fates = l.fates }, said_none line line is refl e.1), w)

-- a step that neither opens a session nor makes a round
abbrev pub waits : code_step.Step → Bool
waits (code.Due rec) = true
waits (code.Run first count) = true
waits (code.Idle ticks) = true
waits (code.Open stop) = false
waits (code.Round fates stop) = false

passes : (settings : StationSettings) (period : ℕ) (x : code_step.Step) (s : Stage) → waits x ≡ true → Does settings (step_of period x) s [] (on_line s (passed (step_of period x) s.line))
passes settings period (code.Due rec) s is = (refl, refl)
passes settings period (code.Run first count) s is = (refl, refl)
passes settings period (code.Idle ticks) s is = (refl, refl)
passes settings period (code.Open stop) s is = absurd cc
passes settings period (code.Round fates stop) s is = absurd cc

pub wait_after : {T : Type 0} (telling : Telling T) (openings k : ℕ) (settings : StationSettings) (period : ℕ) (x : code_step.Step) (s : Stage) (run : Run) (line now : Sim) (disk : Stopping MemDisk) (old : T) → waits x ≡ true → HoldsAt openings settings s run disk → LineAt s line
    → SimStandsFor now (passed (step_of period x) s.line) → fates_of now.fates ≡ fates_of line.fates → now.talk.items ≡ line.talk.items
    → After telling false settings (step_of period x) s (λ is u. HoldsAt (openings + k) settings u run disk × LineAt u now × HasSaid is line now) old old
wait_after telling openings k settings period x s run line now disk old is h l stands fates talk = (
  [],
  on_line s (passed (step_of period x) s.line),
  passes settings period x s is,
  (
    record { rests = rest_on openings k s.archive disk h.rests; session = h.session; rounds = h.rounds; written = h.written },
    record { stands = stands; fates = fates ∙ l.fates },
    said_none line now [] talk refl,
  ),
  telling.tells_none old,
)

pub wait_cut : {T : Type 0} (telling : Telling T) (settings : StationSettings) (x : ReplayStep) (s : Stage) (old : T) → StepIsCut telling settings x s old old
wait_cut telling settings x s old = inr (inr (inr (telling.tells_none old)))

pub waiting : (x : code_step.Step) → ((rec : Rec52) × (x ≡ code.Due rec)) ⊎ (((first : Rec52) × (count : ℕ) × (x ≡ code.Run first count)) ⊎ ((ticks : ℕ) × (x ≡ code.Idle ticks))) → waits x ≡ true
waiting x (inl h) = ap waits h.1
waiting x (inr (inl h)) = ap waits h.2
waiting x (inr (inr h)) = ap waits h.1
