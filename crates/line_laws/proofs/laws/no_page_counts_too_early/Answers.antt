use Rattle.line_laws.proofs.NotTooEarly.{attempt_few}
use Rattle.line_laws.proofs.laws.no_page_counts_too_early.Goals as goal

pub returns : goal.returns
returns c = attempt_few
