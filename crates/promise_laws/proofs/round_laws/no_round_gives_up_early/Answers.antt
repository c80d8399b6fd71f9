use Rattle.promise_laws.proofs.Found.{refused}
use Rattle.promise_laws.proofs.RefusedRounds.{round_refused, not_early}
use Rattle.promise_laws.specs.Rounds.{SomeRound, GivesUpEarly}
use Rattle.promise_laws.proofs.round_laws.no_round_gives_up_early.Goals as goal

pub returns : goal.returns
returns c = λ settings records. refused settings records (SomeRound GivesUpEarly) (round_refused settings records GivesUpEarly (not_early settings records))
