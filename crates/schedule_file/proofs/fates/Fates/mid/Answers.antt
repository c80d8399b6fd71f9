use Rattle.std.proofs.Common.{◌≡◌, List, true, false, [], ◌∷◌, ◌++◌, Bool, ◌≤◌, arith}
use Rattle.std.specs.Prelude.{if◌then◌else◌}
use Rattle.std.specs.Result.{is_ok}
use Rattle.schedule_file.specs.declared.fates.Mid.{Mid}
use Rattle.schedule_file.specs.InOrder.{is_in_order, last_number}
use Rattle.schedule_file.proofs.InOrder.{in_order_more}
use Rattle.schedule_file.proofs.fates.Fates.mid.Goals as goal

pushed : (ok : Bool) (xs ys : List Mid) (m : Mid) → ys ≡ (if ok then xs ++ m ∷ [] else xs) → is_in_order (λ m. m.number) 0 xs ≡ true
    → last_number (λ m. m.number) 0 xs ≤ m.number → is_in_order (λ m. m.number) 0 ys ≡ true
pushed true xs ys m is ordered behind = rw is (in_order_more (λ m. m.number) 0 xs m ordered behind)
pushed false xs ys m is ordered behind = rw is ordered

pub invariant_of-self : goal.invariant_of-self
invariant_of-self c = record {
  few = omega (arith, c.push.ensures.upper_bound, c.requires.few);
  ordered = pushed (is_ok c.push.result) c.args.self.now.mids.items c.push.new.self.items _ c.push.ensures.items c.args.self.now.ordered c.requires.behind;
}
