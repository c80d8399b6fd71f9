-- Files of schedules that are read one after another.
use Rattle.std.proofs.Common.{◌≡◌, ℕ, List, [], ◌∷◌, ◌++◌, Ok, Err, refl}
use Rattle.std.specs.Global.{Vec}
use Rattle.std.specs.declared.result.Result.{Result}
use Rattle.run_output.proofs.Behind.{ended, went_on}
use Rattle.run_output.specs.Output.{Output, no_memory}
use Rattle.run_output.specs.Outside.{Meanings, over_files}
use Rattle.run_output.specs.declared.outside.Outside.{Outside}
use Rattle.schedule_file.specs.declared.schedule.Schedule.{Schedule}
use Rattle.model_commands.specs.FleetRun.{reads_schedules}
use Rattle.model_commands.specs.ScheduleReading.{reads_schedule}

-- what reads those that are left, behind those that were read, reads all
abbrev pub Completes : {F K L D : Type 0} → Meanings F K L D → ℕ → List Schedule → List (List ℕ) → List (List ℕ) → Outside F K L D → Outside F K L D → Type 0
Completes {F} {K} {L} {D} m period given left all old mid = (result : Result (Vec Schedule) Output) (new : Outside F K L D)
    → reads_schedules m period given left mid result new → reads_schedules m period [] all old result new

module _ {F K L D : Type 0} (m : Meanings F K L D) (period : ℕ) (given : List Schedule) (name : List ℕ) (left all : List (List ℕ))
    (old mid new : Outside F K L D) (before : Completes m period given (name ∷ left) all old mid) (answer : Result Schedule Output)
    (read : over_files (reads_schedule m.shelf name period) mid answer new) where
  -- one more was read
  pub reads_on : (schedule : Schedule) → answer ≡ Ok schedule → Completes m period (given ++ schedule ∷ []) left all old new
  reads_on schedule is = λ result last more. before result last
      (went_on _ _ mid new last answer result schedule read is (went_on _ _ new new last (Ok tt) result tt (tt, refl) refl more))

  -- one ended the run
  pub read_ends : (output : Output) (result : Result (Vec Schedule) Output) → answer ≡ Err output → result ≡ Err output
      → reads_schedules m period [] all old result new
  read_ends output result is given = before result new (ended _ _ mid new answer result output read is given)

  -- or there was no memory for it
  pub memory_ends : (schedule : Schedule) (result : Result (Vec Schedule) Output) → answer ≡ Ok schedule → result ≡ Err no_memory
      → reads_schedules m period [] all old result new
  memory_ends schedule result is given = before result new
      (went_on _ _ mid new new answer result schedule read is (ended _ _ new new (Err no_memory) result no_memory (refl, refl) refl given))
