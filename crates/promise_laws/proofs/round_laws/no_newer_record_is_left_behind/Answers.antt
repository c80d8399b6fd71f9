use Rattle.promise_laws.proofs.Found.{refused}
use Rattle.promise_laws.proofs.RefusedRounds.{round_refused, none_left_behind}
use Rattle.promise_laws.specs.Rounds.{SomeRound, LeavesNewerRecord}
use Rattle.promise_laws.proofs.round_laws.no_newer_record_is_left_behind.Goals as goal

pub returns : goal.returns
returns c = λ settings records. refused settings records (SomeRound (LeavesNewerRecord settings records)) (round_refused settings records (LeavesNewerRecord settings records) (none_left_behind settings records))
