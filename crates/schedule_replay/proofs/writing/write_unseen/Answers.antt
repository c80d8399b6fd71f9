use Rattle.std.proofs.Common.{◌≡◌, ℕ, List, subst, ◌∙◌}
use Rattle.replay_laws.specs.Texts.{item_text, unseen_line}
use Rattle.schedule_replay.specs.Writing.{WritesText}
use Rattle.schedule_replay.proofs.writing.write_unseen.Goals as goal

pub returns-clause-text : goal.returns-clause-text
unfolding item_text
returns-clause-text g c =
    let line : c.deref.result.now ≡ unseen_line c.args.number c.args.which = c.deref.ensures.0 ∙ c.unseen_line.ensures in
    let P : List ℕ → Type 0 = λ text. WritesText g.K.Sink.outlet c.args.out.now c.write.new.out text c.write.result in
    subst P line c.write.ensures.text
