use Rattle.quality.proofs.Taken.{taken_by_bits, taken_missing, named_all}
use Rattle.quality.proofs.correction.taken.Goals as goal
use Rattle.station_base.specs.Fields.{field_count}

pub returns-clause-named : goal.returns-clause-named
returns-clause-named c = rw c.bits.ensures.bits (named_all c.args.before.now c.args.after.now c.loop-index.index c.loop-index.fields c.loop-index.invariant c.loop-index-test.false)

pub returns-clause-exact : goal.returns-clause-exact
returns-clause-exact c =
    taken_by_bits field_count c.bits.result c.args.before.now c.args.after.now c.told-before c.told-after c.bits.ensures.range (returns-clause-named c)

pub returns-clause-missing : goal.returns-clause-missing
returns-clause-missing c =
    taken_missing c.bits.result c.args.before.now c.args.after.now c.bits.ensures.range (returns-clause-named c)
