use Rattle.std.proofs.Common.{◌≡◌, ◌∙◌, ap, ◌∷◌}
use Rattle.std.specs.Int.{w32}
use Rattle.std.proofs.lemmas.Int.{to_z-of_z}
use Rattle.schedule_file.specs.Pieces.{words_left}
use Rattle.schedule_file.specs.Naming.{values_on}
use Rattle.schedule_file.proofs.NamedValues.{word_more}
use Rattle.schedule_file.proofs.schedule.naming.read_values.Goals as goal

pub loop-word-preserved : goal.loop-word-preserved
loop-word-preserved c =
    let cut : words_left c.loop-word.rest.now ≡ c.in-Some.word.now ∷ words_left c.in-Some.more.now = c.in-Some.ensures.some in
    c.loop-word.invariant ∙ ap (values_on c.loop-word.naming) cut
    ∙ word_more c.loop-word.naming c.take.new.self c.in-Some.word.now _ (words_left c.in-Some.more.now) c.in_ok-name.ensures.named
    (λ others. rw (← to_z-of_z w32 c.in_ok-name.value c.in_ok-name.ensures.fits) (c.take.ensures others))
