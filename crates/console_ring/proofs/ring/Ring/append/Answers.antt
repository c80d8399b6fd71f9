use Rattle.std.proofs.Common.{ap}
use Rattle.console_ring.proofs.Histories.{appended}
use Rattle.console_ring.proofs.ring.Ring.append.Goals as goal

pub returns : goal.returns
returns c history stands follows =
    appended c.self.inside.records.items c.push_back.new.self.items c.self.inside.next_slot c.self.inside.records.capacity history c.args.rec
    (rw c.self.view_is stands) follows c.self.invariant.0 (ap (λ b. b.items) c.push_back.ensures.items)
