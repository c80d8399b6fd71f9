-- How long the periods of a console are.
use Rattle.std.proofs.Common.{ℕ, ◌≤◌, arith}
use Rattle.std.proofs.lemmas.Bool.Decides.{nat_tests}
use Rattle.station_base.specs.Period.{IsPeriod}

-- no period is longer than two hours
pub period_bound : (minutes : ℕ) → IsPeriod minutes → minutes ≤ 120
period_bound minutes is = grind (arith, nat_tests)
