use Rattle.std.proofs.Common.{◌≡◌, ℕ, suc, ◌+◌, ◌-◌, sym, ap, ◌∙◌, subst, arith}
use Rattle.console_model.specs.Standing.{ConsoleStandsFor}
use Rattle.console_model.specs.Tick.{tick}
use Rattle.console_server.specs.Ready.{ticked}
use Rattle.console_server.proofs.readying.pass_ticks.Goals as goal

pub loop-preserved : goal.loop-preserved
loop-preserved c = λ k stands.
    let at = c.loop.invariant k stands in
    let some : c.args.ticks - c.loop.counter ≡ suc (c.args.ticks - (c.loop.counter + 1)) = omega (arith, c.loop-test.true) in
    ((tick at.0).next, (c.tick.ensures at.0 at.1).stands, sym (ap (λ (n : ℕ). ticked n at.0) some) ∙ at.2)

pub returns : goal.returns
returns c = λ k stands.
    let at = c.loop.invariant k stands in
    let none : c.args.ticks - c.loop.counter ≡ 0 = omega (arith, c.loop-test.false) in
    subst (ConsoleStandsFor c.loop.console) (sym (ap (λ (n : ℕ). ticked n at.0) none) ∙ at.2) at.1
