use Rattle.row_text.proofs.Places.{place_found, place_missing}
use Rattle.row_text.proofs.words.end_before.Goals as goal

pub returns-in-Some-clause-end : goal.returns-in-Some-clause-end
returns-in-Some-clause-end c = place_found c.args.separator c.args.text.now _ (cc)

pub returns-in-None-clause-end : goal.returns-in-None-clause-end
returns-in-None-clause-end c = place_missing c.args.separator c.args.text.now (cc)
