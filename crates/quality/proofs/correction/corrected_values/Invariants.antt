use Rattle.quality.proofs.Values.{AreCorrected}
use Rattle.quality.proofs.correction.corrected_values.Given as goal

abbrev pub invariant-loop-index : goal.invariant-loop-index
invariant-loop-index l = AreCorrected l.settings l.stamp l.index l.values l.corrected
