use Rattle.std.proofs.Common.{sym, ◌∙◌}
use Rattle.console_ring.proofs.Latest.{plan_newer}
use Rattle.console_ring.proofs.Plans.{without, with_records}
use Rattle.console_ring.proofs.ring.Ring.plan_after.Goals as goal

pub returns-in_default-clause-plan : goal.returns-in_default-clause-plan
returns-in_default-clause-plan c history stands =
    c.none.ensures ∙ without c.args.self.now history c.args.date c.args.time stands (sym c.count_from_newer.ensures.count ∙ c.in_default.is)

pub returns-clause-plan : goal.returns-clause-plan
returns-clause-plan c history stands =
    let range = rw c.in-Some.is at c.count_from_newer.ensures.range in
    with_records c.args.self.now history c.args.date c.args.time c.next_slot.result c.in-Some.count stands (c.next_slot.ensures.slot history stands)
    (sym c.count_from_newer.ensures.count ∙ c.in-Some.is) range.0

pub returns-in_default-clause-newer : goal.returns-in_default-clause-newer
returns-in_default-clause-newer c history stands =
    c.none.ensures
    ∙ without c.args.self.now history c.args.date c.args.time stands (sym c.count_from_newer.ensures.count ∙ c.in_default.is)
    ∙ plan_newer history c.args.date c.args.time stands.rises

pub returns-clause-newer : goal.returns-clause-newer
returns-clause-newer c history stands =
    let range = rw c.in-Some.is at c.count_from_newer.ensures.range in
    with_records c.args.self.now history c.args.date c.args.time c.next_slot.result c.in-Some.count stands (c.next_slot.ensures.slot history stands)
    (sym c.count_from_newer.ensures.count ∙ c.in-Some.is) range.0
    ∙ plan_newer history c.args.date c.args.time stands.rises
