use Rattle.std.proofs.Common.{refl, arith}
use Rattle.packed_rows.proofs.TailLaws.{none_running}
use Rattle.packed_rows.proofs.tail.Tail.new.Goals as goal

pub returns : goal.returns
returns c = record { rising = refl; last = refl; running = c.new.ensures.summary }

pub invariant_of-result-clause-few : goal.invariant_of-result-clause-few
invariant_of-result-clause-few c = omega (arith, none_running c.new.result c.new.ensures.summary)
