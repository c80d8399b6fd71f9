use Rattle.std.proofs.Common.{◌≡◌, drop}
use Rattle.console_model.specs.Console as model
use Rattle.console_model.specs.Standing.{ConsoleStandsFor}
use Rattle.console_server.specs.Ready.{console_made_ready}
use Rattle.console_server.proofs.readying.make_ready.Given as goal

-- with the steps that are left the console becomes what all of them make of it
abbrev pub invariant-loop-step : goal.invariant-loop-step
invariant-loop-step l = (k : model.Console) → ConsoleStandsFor l.initial.console k → (m : model.Console) × ConsoleStandsFor l.console m
    × (console_made_ready l.period (drop l.step-index l.steps) m ≡ console_made_ready l.period l.steps k)
