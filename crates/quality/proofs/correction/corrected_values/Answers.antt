use Rattle.std.proofs.Common.{◌≡◌, ◌<◌, length, get_or, None, arith, rules}
use Rattle.quality.proofs.Values.{AreCorrected-more, AreCorrected-all, AreCorrected-printable, corrected_at}
use Rattle.quality.proofs.correction.corrected_values.Goals as goal

pub corrected_value-requires-clause-reading : goal.corrected_value-requires-clause-reading
corrected_value-requires-clause-reading c = c.requires c.loop-index.index None (omega arith)

pub loop-index-preserved : goal.loop-index-preserved
loop-index-preserved c =
    let i = c.loop-index.index in
    let within : i < length c.args.values.now = omega arith in
    let exact : c.corrected_value.result ≡ corrected_at c.args.settings.now c.args.stamp i (get_or c.args.values.now i None) = search rules in
    AreCorrected-more c.args.settings.now c.args.stamp i c.args.values.now c.loop-index.corrected c.corrected_value.result
    c.loop-index.invariant within (omega arith) exact c.corrected_value.ensures.printable

pub returns-clause-exact : goal.returns-clause-exact
returns-clause-exact c =
    AreCorrected-all c.args.settings.now c.args.stamp c.loop-index.index c.args.values.now c.loop-index.corrected c.loop-index.invariant (omega arith) (omega arith)

pub returns-clause-printable : goal.returns-clause-printable
returns-clause-printable c =
    AreCorrected-printable c.args.settings.now c.args.stamp c.loop-index.index c.args.values.now c.loop-index.corrected c.loop-index.invariant (omega arith)
