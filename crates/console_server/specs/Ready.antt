-- What the steps of a schedule before its first round make of a console.
use Rattle.std.specs.Prelude.{ℕ, zero, suc, List, [], ◌∷◌, Some}
use Rattle.console_model.specs.Console.{Console}
use Rattle.console_model.specs.Due.{due}
use Rattle.console_model.specs.Tick.{tick}
use Rattle.station_sim.specs.Line.{due_all}
use Rattle.schedule_file.specs.declared.schedule.step.Step.{Step}
use Rattle.schedule_file.specs.declared.schedule.step.Step.TheVariants.{Due, Run, Idle, Open, Round}
use Rattle.console_server.specs.Runs.{run_from}

-- so many ticks pass, and what the console says to them is not heard
abbrev pub ticked : ℕ → Console → Console
ticked zero k = k
ticked (suc n) k = ticked n (tick k).next

-- the console after the steps of a schedule of this period before the first round: its records fell due and its ticks
-- passed
abbrev pub console_made_ready : ℕ → List Step → Console → Console
console_made_ready period [] k = k
console_made_ready period (Due rec ∷ steps) k = console_made_ready period steps (due rec k)
console_made_ready period (Run first count ∷ steps) k =
    console_made_ready period steps (due_all (run_from period (Some first) count) k)
console_made_ready period (Idle ticks ∷ steps) k = console_made_ready period steps (ticked ticks k)
console_made_ready period (Open stop ∷ steps) k = console_made_ready period steps k
console_made_ready period (Round fates stop ∷ steps) k = k
