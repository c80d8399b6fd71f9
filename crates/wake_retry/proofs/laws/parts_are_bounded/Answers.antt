use Rattle.wake_retry.proofs.TalkBounds.{bounds_answer, bounds_settling, bounds_wake}
use Rattle.wake_retry.proofs.laws.parts_are_bounded.Goals as goal

pub returns-clause-answer : goal.returns-clause-answer
returns-clause-answer c = bounds_answer

pub returns-clause-settling : goal.returns-clause-settling
returns-clause-settling c = bounds_settling

pub returns-clause-wake : goal.returns-clause-wake
returns-clause-wake c = bounds_wake
