use Rattle.std.proofs.Common.{◌≡◌, ◌∷◌, [], List, ℕ, length, ◌/◌, ◌<◌, ◌∙◌, ap, subst, arith}
use Rattle.gated_log.specs.Log.{in_slots, as_handed}
use Rattle.gated_log.specs.Layout.{slot_size}
use Rattle.gated_log.proofs.SlotsShown.{first_slot, next_slot}
use Rattle.gated_log.proofs.show.show.Goals as goal

pub loop-k-init : goal.loop-k-init
loop-k-init g c =
    let visits = g.V.Visitor.visits in let batch = c.args.batch.now in let u = c.args.visitor.now in let v = c.visit.new.self in
    let some : 0 < length batch / slot_size = omega (arith, c.requires.some, c.requires.whole) in
    let saw = subst (λ (xs : List (List ℕ)). visits.saw c.args.version u xs v)
    (ap (λ (x : List ℕ). x ∷ []) c.without_marks.ensures ∙ first_slot (length batch / slot_size) batch c.as_chunks.result.0.now c.as_chunks.ensures.front some) c.visit.ensures in
    record { saw = saw; count = visits.counts c.args.version u v (in_slots 1 (as_handed batch)) saw }

pub visit-requires-in-loop-k-clause-order : goal.visit-requires-in-loop-k-clause-order
visit-requires-in-loop-k-clause-order g c = omega (arith, c.requires.order, c.loop-k.invariant.count)

pub loop-k-preserved : goal.loop-k-preserved
loop-k-preserved g c =
    let visits = g.V.Visitor.visits in let batch = c.args.batch.now in let k = c.loop-k.k in
    let u = c.args.visitor.now in let v = c.loop-k.visitor in let w = c.visit-in-loop-k.new.self in let i = c.loop-k.invariant in
    let lt : k < length batch / slot_size = omega (arith, c.loop-k-test.true, c.as_chunks.ensures.front_len) in
    let last = visits.counts c.args.version v w _ c.visit-in-loop-k.ensures in
    record {
      saw = subst (λ (xs : List (List ℕ)). visits.saw c.args.version u xs w)
          (next_slot (length batch / slot_size) batch c.as_chunks.result.0.now c.as_chunks.ensures.front k c.loop-k.auto.k lt)
          (visits.saw_joins c.args.version u v w (in_slots k (as_handed batch)) _ i.saw c.visit-in-loop-k.ensures);
      count = omega (arith, i.count, last);
    }

pub returns : goal.returns
returns g c =
    let n : ℕ = length c.args.batch.now / slot_size in
    let e : c.loop-k.k ≡ n = omega (arith, c.loop-k-test.false, c.loop-k.auto.k-end, c.as_chunks.ensures.front_len, c.requires.some, c.requires.whole) in
    subst (λ (j : ℕ). g.V.Visitor.visits.saw c.args.version c.args.visitor.now (in_slots j (as_handed c.args.batch.now)) c.loop-k.visitor) e c.loop-k.invariant.saw
