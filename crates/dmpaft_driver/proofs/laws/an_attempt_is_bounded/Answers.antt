use Rattle.dmpaft_driver.proofs.AttemptBounds.{attempts_are_bounded}
use Rattle.dmpaft_driver.proofs.laws.an_attempt_is_bounded.Goals as goal

pub returns-clause-bounded : goal.returns-clause-bounded
returns-clause-bounded c = attempts_are_bounded
