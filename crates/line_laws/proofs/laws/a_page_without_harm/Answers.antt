use Rattle.line_laws.proofs.Unharmed.{page_law}
use Rattle.line_laws.proofs.laws.a_page_without_harm.Goals as goal

pub returns : goal.returns
returns c = page_law
