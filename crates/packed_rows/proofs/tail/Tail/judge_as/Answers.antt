use Rattle.std.proofs.Common.{◌≡◌, [], sym, ◌∙◌, subst, Bool, true, cond}
use Rattle.packed_rows.specs.Tail.{Judges}
use Rattle.packed_rows.proofs.Versions.{unknown_wrong}
use Rattle.packed_rows.specs.Rows.{is_known}
use Rattle.packed_rows.proofs.tail.Tail.judge_as.Goals as goal

pub returns-then-not-known-clause-judges : goal.returns-then-not-known-clause-judges
returns-then-not-known-clause-judges c rows ends =
    unknown_wrong (is_known c.args.version c.args.slot.now) rows c.args.shown c.args.slot.now (sym c.is_known-known.ensures ∙ c.if-not-known.true)

pub returns-clause-judges : goal.returns-clause-judges
returns-clause-judges c rows ends =
    let known : is_known c.args.version c.args.slot.now ≡ true = sym c.is_known-known.ensures ∙ c.if-not-known.false in
    subst (λ (b : Bool). Judges c.judge.result c.judge.new.row rows c.args.shown (cond b c.args.slot.now [])) (sym known) (c.judge.ensures.judges rows ends)
