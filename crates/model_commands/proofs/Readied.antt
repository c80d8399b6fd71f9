-- The steps of a schedule in memory make of a console what its steps by the rules do.
use Rattle.std.proofs.Common.{◌≡◌, ℕ, zero, suc, List, [], ◌∷◌, Option, Some, refl, ap, ◌∙◌}
use Rattle.std.specs.List.{AllByRecursion}
use Rattle.archive_record.specs.MovedOn.{moved_on}
use Rattle.console_model.specs.Console.{Console}
use Rattle.console_model.specs.Due.{due}
use Rattle.console_server.proofs.RunEnds.{none_left}
use Rattle.console_server.specs.Ready.{console_made_ready, ticked}
use Rattle.console_server.specs.Runs as served
use Rattle.schedule_steps.proofs.RunRecords.{run_next, run_of_two, run_on}
use Rattle.schedule_steps.specs.Accepted.{IsInRange}
use Rattle.schedule_steps.specs.Runs as run
use Rattle.schedule_steps.specs.Steps.{steps_for}
use Rattle.station_sim.specs.Line.{due_all}
use Rattle.schedule_file.specs.declared.schedule.step.Step.{Step}
use Rattle.schedule_file.specs.declared.schedule.step.Step.TheVariants.{Due, Run, Idle, Open, Round}
use Rattle.model_commands.specs.ConsoleRun.{before_rounds}

-- so the records of a run are the same
pub same_run : (period count : ℕ) (first : List ℕ) → run.IsRun period first count → served.run_from period (Some first) count ≡ run.run_records period first count
same_run period zero first is = refl
same_run period (suc zero) first is = ap (λ (rs : List (List ℕ)). first ∷ rs) (none_left period (moved_on period first))
same_run period (suc (suc count)) first is =
    ap (λ (rs : List (List ℕ)). first ∷ rs)
    (ap (λ (next : Option (List ℕ)). served.run_from period next (suc count)) (run_next period first (run_of_two period count first is))
    ∙ same_run period (suc count) (run.next_record period first) (run_on period count first is))

-- and so is the console that they make
pub same_ready : (period : ℕ) (steps : List Step) (k : Console) → AllByRecursion (IsInRange period) steps → console_made_ready period steps k ≡ before_rounds (steps_for period steps) k
same_ready period [] k all = refl
same_ready period (Due rec ∷ steps) k all = same_ready period steps (due rec k) all.1
same_ready period (Run first count ∷ steps) k all =
    ap (λ (rs : List (List ℕ)). console_made_ready period steps (due_all rs k)) (same_run period count first all.0)
    ∙ same_ready period steps (due_all (run.run_records period first count) k) all.1
same_ready period (Idle ticks ∷ steps) k all = same_ready period steps (ticked ticks k) all.1
same_ready period (Open stop ∷ steps) k all = same_ready period steps k all.1
same_ready period (Round fates stop ∷ steps) k all = refl
