use Rattle.std.proofs.Common.{◌≡◌, ◌+◌, ◌-◌, ◌*◌, ◌/◌, ◌<◌, ◌≤◌, List, ◌++◌, ℕ, length, take, drop, refl, sym, subst, arith, length-take}
use Rattle.std.proofs.lemmas.List.{length-drop, take_all}
use Rattle.gated_log.specs.Log.{in_slots, as_handed}
use Rattle.gated_log.specs.Visits.{IsShown}
use Rattle.gated_log.specs.Walk.{BeginWith, WalksOn}
use Rattle.gated_log.proofs.Chains.{length-in_slots}
use Rattle.gated_log.proofs.SlotsShown.{batch_more, shown_more, shown_none, walks_on_none}
use Rattle.gated_log.proofs.Walks.{unbroken_fits}
use Rattle.gated_log.proofs.piece.show_batches.Goals as goal
use Rattle.gated_log.specs.Layout.{slot_size}

pub loop-at-init : goal.loop-at-init
loop-at-init g c = record {
  place = omega arith;
  held = omega arith;
  within = λ some. some;
  shown = shown_none g.V.Visitor.visits c.args.version c.args.visitor.now _ (λ x long is. walks_on_none x c.args.place);
}

pub loop-at-preserved : goal.loop-at-preserved
loop-at-preserved g c =
    let visits = g.V.Visitor.visits in let version = c.args.version in let v = c.loop-at.visitor in let w = c.show.new.visitor in
    let i = c.loop-at.invariant in let at = c.loop-at.at in let n = c.in-Some.n in let piece = c.args.piece.now in let left = c.args.left in let place = c.args.place in
    let head : BeginWith (drop at piece) (left - at) n = subst (λ (xs : List ℕ). BeginWith xs (left - at) n) (take_all (length piece - at) (drop at piece) (omega (arith, length-drop at piece))) c.in-Some.ensures in
    let fits : slot_size * n < left - at = unbroken_fits n (left - at) head.unbroken in
    let within : at + slot_size * n ≤ length piece = omega (arith, c.if-size-piece.false, i.held) in
    let batch : List ℕ = take (slot_size * n) (drop at piece) in
    let size : at + slot_size * n - at ≡ slot_size * n = omega arith in
    let long : length batch ≡ slot_size * n = omega (arith, length-take (slot_size * n) (drop at piece), length-drop at piece, within) in
    let count : length batch / slot_size ≡ n = omega (arith, long) in
    let saw : visits.saw version v (in_slots n (as_handed batch)) w =
    subst (λ (k : ℕ). visits.saw version v (in_slots k (as_handed batch)) w) count
    (subst (λ (k : ℕ). visits.saw version v (in_slots (length (take k (drop at piece)) / slot_size) (as_handed (take k (drop at piece)))) w) size c.show.ensures) in
    let more : IsShown visits version v n (λ ys. ys ≡ in_slots n (as_handed batch)) w = record { slots = in_slots n (as_handed batch); saw = saw; count_is = sym (length-in_slots n (as_handed batch)); are = refl } in
    record {
      place = omega (arith, i.place);
      held = within;
      within = λ some. omega (arith, fits);
      shown = shown_more visits version i.shown _ more refl (λ xs ys so_far this on is x held there.
          subst (λ (zs : List (List ℕ)). WalksOn x place (xs ++ zs)) (sym is)
          (batch_more x piece place left held there at n xs (omega (arith, i.place, so_far)) c.loop-at-test.true within (omega (arith, fits)) head (on x held there)));
    }
