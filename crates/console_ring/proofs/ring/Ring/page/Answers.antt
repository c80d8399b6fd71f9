use Rattle.std.proofs.Common.{◌≡◌, ℕ, ◌+◌, ◌*◌, ◌-◌, arith, ◌∙◌, ap}
use Rattle.archive_record.specs.Place.{record_size}
use Rattle.vantage_frames.specs.Slots.{slot_at}
use Rattle.console_ring.specs.Picture.{slot_on}
use Rattle.console_ring.proofs.Pages.{begun, more, whole, room, same_slot, slots_shown}
use Rattle.console_ring.proofs.ring.Ring.page.Goals as goal

pub loop-place-init : goal.loop-place-init
loop-place-init c history stands = rw c.blank_page-page.ensures (begun _ _)

pub loop-place-preserved : goal.loop-place-preserved
loop-place-preserved c history stands =
    let place : ℕ = c.from-in-loop-place.result in
    let start : 1 + record_size * place ≡ 1 + record_size * c.loop-place.place = ap (λ n. 1 + record_size * n) c.from-in-loop-place.ensures in
    let size : 1 + record_size * place + record_size - (1 + record_size * place) ≡ record_size = omega arith in
    let long = c.copy_from_slice.ensures.len ∙ room c.loop-place.page c.loop-place.place _ _ c.slot-slot.array_long c.loop-place-test.true start size in
    let slot = c.copy_from_slice.ensures.after ∙ c.slot-slot.ensures history stands
    ∙ same_slot history c.args.plan.now c.from.result c.args.k c.from-2.result c.loop-place.place c.from-in-loop-place-2.result c.from.ensures c.from-2.ensures c.from-in-loop-place-2.ensures in
    more c.loop-place.page c.copy_from_slice.new.self _ (slot_on history c.args.plan.now c.args.k) c.loop-place.place _ _
    (c.loop-place.invariant history stands) c.loop-place-test.true long slot start size

pub returns-clause-page : goal.returns-clause-page
returns-clause-page c history stands =
    let all : c.loop-place.place ≡ 5 = omega (arith, c.loop-place.auto.place-end, c.loop-place-test.false) in
    c.seal.ensures.sealed
    ∙ whole c.loop-place.page history c.args.plan.now c.args.k c.loop-place.place (c.loop-place.invariant history stands) all c.loop-place-test.array_long

pub returns-clause-slots : goal.returns-clause-slots
returns-clause-slots c history stands place below =
    let all : c.loop-place.place ≡ 5 = omega (arith, c.loop-place.auto.place-end, c.loop-place-test.false) in
    let begins = c.loop-place.invariant history stands in
    ap (λ xs. slot_at xs place) (c.seal.ensures.sealed ∙ whole c.loop-place.page history c.args.plan.now c.args.k c.loop-place.place begins all c.loop-place-test.array_long)
    ∙ slots_shown c.loop-place.page history c.args.plan.now c.args.k c.loop-place.place place begins all below
