use Rattle.std.proofs.Common.{arith}
use Rattle.packed_rows.proofs.TailLaws.{none_running}
use Rattle.packed_rows.proofs.tail.Tail.turn_to.Goals as goal

pub invariant_of-self : goal.invariant_of-self
invariant_of-self c = record { bounds = c.new-self.ensures.running; few = omega (arith, none_running c.new-self.result c.new-self.ensures.summary) }
