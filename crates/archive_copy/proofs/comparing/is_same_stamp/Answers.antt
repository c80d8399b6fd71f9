use Rattle.std.proofs.Common.{◌∙◌, sym, ap}
use Rattle.station_base.specs.Stamp.{time_word_of}
use Rattle.std.proofs.lemmas.Bool.Decides.{Decides-eqb}
use Rattle.archive_copy.proofs.SameRows.{same_words}
use Rattle.archive_copy.proofs.comparing.is_same_stamp.Goals as goal

pub returns-then-date_word : goal.returns-then-date_word
returns-then-date_word c =
    let one = c.args.held.now in let other = c.args.stamp.now in
    let test = Decides-eqb c.time_word.result c.time_word-then-date_word.result in (
      λ same. same_words one other c.date_word.ensures.civil c.date_word-2.ensures.civil
          (sym c.date_word.ensures.word ∙ c.if-date_word.true ∙ c.date_word-2.ensures.word)
          (sym c.time_word.ensures ∙ test.0 same ∙ c.time_word-then-date_word.ensures),
      λ is. test.1 (c.time_word.ensures ∙ ap time_word_of is ∙ sym c.time_word-then-date_word.ensures),
    )
