use Rattle.std.proofs.Common.{◌≡◌, ◌-◌, Some}
use Rattle.console_model.specs.Console as model
use Rattle.console_model.specs.Standing.{ConsoleStandsFor}
use Rattle.station_sim.specs.Line.{due_all}
use Rattle.console_server.specs.Runs.{run_from}
use Rattle.console_server.proofs.run.run_falls_due.Given as goal

-- with the records that are left the console becomes what all of them make of it
abbrev pub invariant-loop : goal.invariant-loop
invariant-loop l = (k : model.Console) → ConsoleStandsFor l.initial.console k → (m : model.Console) × ConsoleStandsFor l.console m
    × (due_all (run_from l.period l.next (l.count - l.counter)) m ≡ due_all (run_from l.period (Some l.first) l.count) k)
