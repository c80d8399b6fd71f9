use Rattle.one_text_laws.proofs.OneTried.{one_tried_law}
use Rattle.one_text_laws.proofs.one_run_laws.an_attempt_is_fixed.Goals as goal

pub returns : goal.returns
returns c = one_tried_law
