use Rattle.line_laws.proofs.Unharmed.{wake_law}
use Rattle.line_laws.proofs.WakeLaws.{wake_no_flood}
use Rattle.line_laws.proofs.laws.a_wake_without_harm.Goals as goal

pub returns-clause-awake : goal.returns-clause-awake
returns-clause-awake c = λ f ok t awake w v r wakes e h. wake_law f ok.mild t awake w v r.flight r.begun r.rests r.sound.valid.tidy wakes e h

pub returns-clause-quiet : goal.returns-clause-quiet
returns-clause-quiet c = λ f ok t w v r e floods. wake_no_flood f ok 3 t w v r floods e
