-- A replay: its causes, and how it ends over good files.
use Rattle.std.proofs.Common.{◌≡◌, ◌⊎◌, ℕ, List, [], ◌∷◌, Ok, Err, refl, sym, ap, arith, inl, inr}
use Rattle.std.specs.declared.result.Result.{Result}
use Rattle.run_output.specs.Ended.{EndsBy, IsOneOf, Lines, output_of}
use Rattle.run_output.specs.Output.{Output}
use Rattle.run_output.specs.Outside.{Meanings, over_files, over_out}
use Rattle.run_output.specs.declared.outside.Outside.{Outside}
use Rattle.run_output.specs.declared.status.Status.{Status}
use Rattle.run_output.specs.declared.status.Status.TheVariants as ends
use Rattle.run_output.proofs.CallCauses.{IsQuiet, by_sink, memory_quiet, says_causes, settles_causes}
use Rattle.run_output.proofs.Causes.{Causes, then_causes}
use Rattle.run_output.proofs.Statuses.{ends_so, has_status}
use Rattle.schedule_file.specs.declared.schedule.Schedule.{Schedule}
use Rattle.schedule_replay.specs.Replayed.{steps_in}
use Rattle.schedule_replay.specs.declared.replaying.ReplayEnd.{ReplayEnd}
use Rattle.schedule_replay.specs.declared.replaying.ReplayEnd.TheVariants as replay_end
use Rattle.settings_file.specs.StationSettings.{StationSettings}
use Rattle.replay_laws.specs.Schedule.{ReplayStep}
use Rattle.model_commands.specs.ReplayRun.{HasGoodFiles, replay_status, replays, replays_files}
use Rattle.model_commands.specs.ScheduleReading.{SaysSchedule, reads_schedule}
use Rattle.model_commands.proofs.GoodSchedule.{good_files_read}

schedule_quiet : (text : List ℕ) (period : ℕ) (result : Result Schedule Output) → SaysSchedule text period result → IsQuiet result
schedule_quiet text period (Ok schedule) says = memory_quiet {A = Schedule} (Ok schedule) tt
schedule_quiet text period (Err output) (inl none) = memory_quiet {A = Schedule} (Err output) none
schedule_quiet text period (Err output) (inr (fault, has, line)) =
    record { no_read = λ is. cc; no_write = λ is. cc; no_link = λ is. cc; no_disk = λ is. cc }

-- a reading of a schedule
pub reads_schedule_causes : {F K L D : Type 0} (m : Meanings F K L D) (name : List ℕ) (period : ℕ)
    → Causes m (over_files (reads_schedule m.shelf name period))
reads_schedule_causes m name period =
    says_causes m name (λ text. SaysSchedule text period) (λ text. schedule_quiet text period)

-- replayed, to the end or to an unseen delivery, unless a read fault, a write fault or want of memory kept the command from that
abbrev pub replayed : List Status
replayed = ends.Done ∷ ends.Unseen ∷ ends.ReadFault ∷ ends.WriteFault ∷ ends.OutOfMemory ∷ []

abbrev pub IsReplayedOrHindered : Status → Type 0
IsReplayedOrHindered = IsOneOf replayed

-- how a replay ends, by its status
replayed_as : (end : ReplayEnd) (status : Status) → replay_status end ≡ status
    → (status ≡ ends.Done) ⊎ (status ≡ ends.Unseen) ⊎ ((status ≡ ends.WriteFault) × (end ≡ replay_end.WriteFault))
    ⊎ (status ≡ ends.OutOfMemory)
replayed_as replay_end.Done status is = inl (sym is)
replayed_as replay_end.Unseen status is = inr (inl (sym is))
replayed_as replay_end.WriteFault status is = inr (inr (inl (sym is, refl)))
replayed_as replay_end.OutOfMemory status is = inr (inr (inr (sym is)))

replays_causes : {F K L D : Type 0} (m : Meanings F K L D) (settings : StationSettings) (steps : List ReplayStep)
    → Causes m (over_out (replays m.outlet settings steps))
replays_causes m settings steps = by_sink m (replays m.outlet settings steps) (λ old new ended did.
    let so = λ (status : Status) (is : EndsBy status ended). replayed_as did.end status (has_status status ended _ did.given is) in
    record {
      cause = record { never_falls = did.cause.never_falls; rose = λ is. did.cause.rose (let e = so ends.WriteFault is in grind arith) };
      still = λ no. did.still (λ is. no (ends_so ends.WriteFault ended _ did.given (λ e. cc) (ap replay_status is)));
      others = (
        λ is. let e = so ends.ReadFault is in grind arith,
        λ is. let e = so ends.LinkFault is in grind arith,
        λ is. let e = so ends.DiskFault is in grind arith,
      );
    })

pub replays_files_causes : {F K L D : Type 0} (m : Meanings F K L D) (settings schedule : List ℕ) → Causes m (replays_files m settings schedule)
replays_files_causes m settings schedule = then_causes m _ _ (settles_causes m settings) (λ settled.
    then_causes m _ _ (reads_schedule_causes m schedule settled.period) (λ steps. replays_causes m settled (steps_in steps)))

-- good files are replayed, unless the outside or the memory fails
pub replays_files_complete : {F K L D : Type 0} (m : Meanings F K L D) (settings schedule : List ℕ) (old new : Outside F K L D)
    (ended : Result Lines Output) → HasGoodFiles m.shelf settings schedule old.files → replays_files m settings schedule old ended new
    → IsReplayedOrHindered (output_of ended).status
replays_files_complete m settings schedule old new ended good did =
    good_files_read m settings schedule _ IsReplayedOrHindered (λ status is. grind arith) good did (λ settled steps mid last.
    let e = replayed_as last.0.end (output_of ended).status (ap (λ (o : Output). o.status) (sym last.0.given)) in grind arith)
