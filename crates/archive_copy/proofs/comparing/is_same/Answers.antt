use Rattle.std.proofs.Common.{◌∙◌, sym, ap}
use Rattle.station_base.specs.declared.row.Row.{Row}
use Rattle.std.proofs.lemmas.Bool.Decides.{Decides-eqb}
use Rattle.archive_copy.proofs.SameRows.{not_so, same_row, so, values_decide}
use Rattle.archive_copy.proofs.comparing.is_same.Goals as goal

pub returns-then-ne-2 : goal.returns-then-ne-2
returns-then-ne-2 c =
    let one = c.args.held.now in let other = c.args.row.now in (
      λ e. absurd cc,
      λ is. absurd
          (let t = (values_decide one.values other.values).1 (ap (λ (r : Row). r.values) is) in
          let f = not_so _ (sym c.ne-2.ensures ∙ c.if-ne-2.true) in cc),
    )

pub returns : goal.returns
returns c =
    let one = c.args.held.now in let other = c.args.row.now in
    let interval = (Decides-eqb one.interval other.interval).0 (so _ (sym c.ne.ensures ∙ c.if-ne.false)) in
    let values = (values_decide one.values other.values).0 (so _ (sym c.ne-2.ensures ∙ c.if-ne-2.false)) in (
      λ same. same_row one other (c.is_same_stamp.ensures.0 same) interval values c.if-held-row.false,
      λ is. c.is_same_stamp.ensures.1 (ap (λ (r : Row). r.stamp) is),
    )
