use Rattle.wake_retry.proofs.Endings.{ends_answer, ends_settling, ends_wake}
use Rattle.wake_retry.proofs.laws.parts_end_once.Goals as goal

pub returns-clause-answer : goal.returns-clause-answer
returns-clause-answer c = ends_answer

pub returns-clause-settling : goal.returns-clause-settling
returns-clause-settling c = ends_settling

pub returns-clause-wake : goal.returns-clause-wake
returns-clause-wake c = ends_wake
