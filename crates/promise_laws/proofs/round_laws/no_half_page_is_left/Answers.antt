use Rattle.promise_laws.proofs.Found.{refused}
use Rattle.promise_laws.proofs.RefusedRounds.{round_refused, no_half_page}
use Rattle.promise_laws.specs.Rounds.{SomeRound, LeavesHalfPage}
use Rattle.promise_laws.proofs.round_laws.no_half_page_is_left.Goals as goal

pub returns : goal.returns
returns c = λ settings records. refused settings records (SomeRound (LeavesHalfPage settings)) (round_refused settings records (LeavesHalfPage settings) (no_half_page settings records))
