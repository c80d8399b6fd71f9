use Rattle.std.proofs.lemmas.List.{take_rest}
use Rattle.schedule_file.proofs.CutTexts.{word_cut}
use Rattle.schedule_file.proofs.schedule.pieces.cut_word.Goals as goal

pub returns-clause-words : goal.returns-clause-words
returns-clause-words c =
    rw (take_rest c.args.line.now c.place_of-end.result) (word_cut c.args.line.now c.place_of-end.result c.place_of-end.ensures.place)
