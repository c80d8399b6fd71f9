use Rattle.one_text_laws.proofs.OneRun.{not_both}
use Rattle.one_text_laws.proofs.one_run_laws.a_run_has_one_kind.Goals as goal

pub returns : goal.returns
returns c settings from steps o other whole unseen = not_both settings from steps o other whole unseen
