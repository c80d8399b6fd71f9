use Rattle.line_laws.proofs.Batches.{attempt_gives}
use Rattle.line_laws.proofs.laws.one_attempt.Goals as goal

pub returns : goal.returns
returns c = attempt_gives
