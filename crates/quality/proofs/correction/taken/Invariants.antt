use Rattle.quality.proofs.Taken.{AreNamed}
use Rattle.quality.proofs.correction.taken.Given as goal

abbrev pub invariant-loop-index : goal.invariant-loop-index
invariant-loop-index l = AreNamed l.before l.after l.index l.fields
