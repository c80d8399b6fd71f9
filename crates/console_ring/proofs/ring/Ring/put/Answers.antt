use Rattle.std.proofs.Common.{◌≡◌, ℕ, ◌<◌, false, is_le, nat_cmp, sym, ◌∙◌, arith}
use Rattle.console_ring.specs.History.{CanExtend}
use Rattle.console_ring.proofs.Histories.{first_follows, later_follows}
use Rattle.console_ring.proofs.ring.Ring.put.Goals as goal
use Rattle.console_ring.proofs.ring.Ring.put.Goals.{in_default-via-in-Some+else-le, in_default-via-in_default}

above : (a b : ℕ) → is_le (nat_cmp a b) ≡ false → b < a
above a b greater = grind arith

pub returns-in_default : goal.returns-in_default
returns-in_default c history stands =
    let newest = c.newest.ensures history stands in
    let follows : CanExtend history c.args.rec = elim c.in_default.branch [
      | in_default-via-in-Some+else-le w ↦ later_follows history c.args.rec c.stamp-stamp.result w.in-Some.newest c.stamp-stamp.ensures (sym newest ∙ w.in-Some.is) (above _ _ (sym w.le.ensures ∙ w.if-le.false))
      | in_default-via-in_default w ↦ first_follows history c.args.rec c.stamp-stamp.result c.stamp-stamp.ensures (sym newest ∙ w.in_default.is)
    ] in
    (follows, c.append.ensures history stands follows)
