use Rattle.std.proofs.Common.{◌≡◌, ◌-◌}
use Rattle.console_model.specs.Console as model
use Rattle.console_model.specs.Standing.{ConsoleStandsFor}
use Rattle.console_server.specs.Ready.{ticked}
use Rattle.console_server.proofs.readying.pass_ticks.Given as goal

-- with the ticks that are left the console becomes what all of them make of it
abbrev pub invariant-loop : goal.invariant-loop
invariant-loop l = (k : model.Console) → ConsoleStandsFor l.initial.console k → (m : model.Console) × ConsoleStandsFor l.console m
    × (ticked (l.ticks - l.counter) m ≡ ticked l.ticks k)
