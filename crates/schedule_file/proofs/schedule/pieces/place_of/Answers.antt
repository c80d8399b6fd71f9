use Rattle.schedule_file.proofs.CutTexts.{place_found, place_missing}
use Rattle.schedule_file.proofs.schedule.pieces.place_of.Goals as goal

pub returns-in-Some-clause-place : goal.returns-in-Some-clause-place
returns-in-Some-clause-place c = place_found c.args.separator c.args.text.now _ (cc)

pub returns-in-None-clause-place : goal.returns-in-None-clause-place
returns-in-None-clause-place c = place_missing c.args.separator c.args.text.now (cc)
