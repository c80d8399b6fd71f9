use Rattle.std.proofs.Common.{◌≡◌, sym, ap, ◌∙◌}
use Rattle.std.specs.Option.{option_copied}
use Rattle.console_ring.specs.Picture.{shown, ring_slot}
use Rattle.console_ring.proofs.Histories.{slot_kept}
use Rattle.console_ring.proofs.ring.Ring.slot.Goals as goal

pub returns-in-Some : goal.returns-in-Some
returns-in-Some c history stands =
    let found : option_copied c.nth_back.result ≡ ring_slot history c.args.number =
    c.nth_back.ensures
    ∙ slot_kept c.self.inside.records.items c.self.inside.next_slot c.args.number c.from.result history (rw c.self.view_is stands) c.requires c.from.ensures in
    c.bytes.ensures.bytes ∙ ap shown (sym (ap option_copied c.in-Some.is) ∙ found)

pub returns-in-None : goal.returns-in-None
returns-in-None c history stands =
    let found : option_copied c.nth_back.result ≡ ring_slot history c.args.number =
    c.nth_back.ensures
    ∙ slot_kept c.self.inside.records.items c.self.inside.next_slot c.args.number c.from.result history (rw c.self.view_is stands) c.requires c.from.ensures in
    sym (ap shown (sym found ∙ ap option_copied c.in-None.is))
