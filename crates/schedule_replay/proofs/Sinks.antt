-- What is told to a sink is written.
use Rattle.std.proofs.Common.{◌≡◌, ℕ, Bool, false, List, [], ◌∷◌, Ok, Err, sym, ◌∙◌, ap, subst, append-nil}
use Rattle.std.specs.declared.result.Result.{Result}
use Rattle.station_io.specs.Sink.{Outlet}
use Rattle.settings_file.specs.StationSettings.{StationSettings}
use Rattle.disk_model.specs.declared.mem_disk.MemDisk.{MemDisk}
use Rattle.disk_model.specs.declared.stopping.Stopping.{Stopping}
use Rattle.schedule_file.specs.declared.schedule.Schedule.{Schedule}
use Rattle.schedule_file.specs.declared.schedule.step.Step as code_step
use Rattle.station_sim.specs.declared.sim.Sim.{Sim}
use Rattle.replay_laws.specs.Replay.{Item, Stage}
use Rattle.replay_laws.specs.Schedule.{ReplayStep}
use Rattle.replay_laws.specs.Texts.{item_text}
use Rattle.schedule_replay.specs.declared.cut.Cut.{Cut}
use Rattle.schedule_replay.specs.declared.cut.Cut.TheVariants.{WriteFault, OutOfMemory}
use Rattle.schedule_replay.specs.Replayed.{ReplayIsCutOff, IsReplayed, TookPart, steps_in}
use Rattle.schedule_steps.specs.Steps.{steps_for}
use Rattle.schedule_replay.specs.Telling.{TellsAll}
use Rattle.schedule_replay.specs.TextTelling.{text_telling}
use Rattle.schedule_replay.specs.Told.{TellsFront, TellsRun}
use Rattle.schedule_replay.specs.Writing.{IsFrontWritten, IsWritten, WritesText}

-- an item is told where its text is written
pub told_one : {K : Type 0} (outlet : Outlet K) (old new : K) (i : Item) (r : Result (Unit {0}) Cut) → WritesText outlet old new (item_text i) r → TellsAll (text_telling outlet) old (i ∷ []) r new
told_one outlet old new i (Ok done) written = subst (IsWritten outlet old new) (sym (append-nil (item_text i))) written
told_one outlet old new i (Err WriteFault) written = subst (IsFrontWritten outlet old new) (sym (append-nil (item_text i))) written
told_one outlet old new i (Err OutOfMemory) written = absurd written

pub run_written : {K : Type 0} (outlet : Outlet K) (unseen : Bool) (settings : StationSettings) (from : Stage) (steps : List ReplayStep) (old new : K) → TellsRun (text_telling outlet) unseen settings from steps old new
    → IsReplayed unseen settings from steps (outlet.taken old) (outlet.taken new)
run_written outlet unseen settings from steps old new h = record { items = h.items; is_replay = h.is_replay; kept = h.kept; written = h.told.appended }

pub front_written : {K : Type 0} (outlet : Outlet K) (settings : StationSettings) (from : Stage) (steps : List ReplayStep) (old new : K) → TellsFront (text_telling outlet) settings from steps old new
    → ReplayIsCutOff settings from steps (outlet.taken old) (outlet.taken new)
front_written outlet settings from steps old new h = record { items = h.items; is_begun = h.is_begun; kept = h.kept; written = h.told.part }

pub part_written : {K : Type 0} (outlet : Outlet K) (settings : StationSettings) (from : Stage) (steps : List ReplayStep) (old new : K) (before after : Sim) (disk : Stopping MemDisk)
    → (run : TellsRun (text_telling outlet) false settings from steps old new) × TookPart settings from steps run.items before after disk
    → (run : IsReplayed false settings from steps (outlet.taken old) (outlet.taken new)) × TookPart settings from steps run.items before after disk
part_written outlet settings from steps old new before after disk (run, part) = (record { items = run.items; is_replay = run.is_replay; kept = run.kept; written = run.told.appended }, part)

-- the steps of a schedule, read from it
pub steps_are : (settings : StationSettings) (schedule : Schedule) (xs : List code_step.Step) → schedule.period ≡ settings.period → xs ≡ schedule.steps.items → steps_for settings.period xs ≡ steps_in schedule
steps_are settings schedule xs period same = ap (steps_for settings.period) same ∙ ap (λ (p : ℕ). steps_for p schedule.steps.items) (sym period)
