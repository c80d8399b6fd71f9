use Rattle.line_laws.proofs.Attempts.{attempt_law}
use Rattle.line_laws.proofs.laws.pages_of_an_attempt.Goals as goal

pub returns : goal.returns
returns c = attempt_law
