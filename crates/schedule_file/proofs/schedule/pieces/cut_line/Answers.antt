use Rattle.std.proofs.Common.{◌+◌}
use Rattle.std.proofs.lemmas.List.{take_rest}
use Rattle.schedule_file.proofs.CutTexts.{line_cut, line_last}
use Rattle.schedule_file.proofs.schedule.pieces.cut_line.Goals as goal

pub returns-then-end-text-clause-lines : goal.returns-then-end-text-clause-lines
returns-then-end-text-clause-lines c =
    rw (take_rest c.args.text.now (c.place_of-end.result + 1)) (line_cut c.args.text.now c.place_of-end.result c.place_of-end.ensures.place c.if-end-text.true)

pub returns-else-end-text-clause-lines : goal.returns-else-end-text-clause-lines
returns-else-end-text-clause-lines c =
    rw (take_rest c.args.text.now c.place_of-end.result) (line_last c.args.text.now c.place_of-end.result c.place_of-end.ensures.place c.if-end-text.false c.requires)
