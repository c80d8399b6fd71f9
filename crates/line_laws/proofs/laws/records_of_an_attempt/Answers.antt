use Rattle.line_laws.proofs.CalmAttempts.{now_attempt}
use Rattle.line_laws.proofs.laws.records_of_an_attempt.Goals as goal

pub returns : goal.returns
returns c = now_attempt
