use Rattle.one_text_laws.proofs.OneRun.{one_text}
use Rattle.one_text_laws.proofs.one_run_laws.a_run_has_one_text.Goals as goal

pub returns : goal.returns
returns c = one_text
