use Rattle.std.proofs.Common.{sym, rules, arith}
use Rattle.station_base.proofs.FieldSets.{missing_where, not_missing, none_missing_of}
use Rattle.station_base.proofs.field_set.FieldSet.are_missing.Goals as goal

pub returns-then-self-eq0 : goal.returns-then-self-eq0
returns-then-self-eq0 c = sym (none_missing_of c.args.self.now c.args.values.now (search rules))

pub returns-then-contains : goal.returns-then-contains
returns-then-contains c = sym (not_missing c.args.self.now c.args.values.now c.loop-index.index c.loop-index-test.true (search rules) (search rules))

pub returns : goal.returns
returns c = sym (missing_where c.args.self.now c.args.values.now (search rules) (λ field small. c.loop-index.invariant field (omega (arith, small))))
