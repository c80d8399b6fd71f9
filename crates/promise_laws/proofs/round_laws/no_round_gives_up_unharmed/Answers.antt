use Rattle.promise_laws.proofs.Found.{refused}
use Rattle.promise_laws.proofs.RefusedRounds.{round_refused, not_unharmed}
use Rattle.promise_laws.specs.Rounds.{SomeRound, GivesUpUnharmed}
use Rattle.promise_laws.proofs.round_laws.no_round_gives_up_unharmed.Goals as goal

pub returns : goal.returns
returns c = λ settings records. refused settings records (SomeRound GivesUpUnharmed) (round_refused settings records GivesUpUnharmed (not_unharmed settings records))
