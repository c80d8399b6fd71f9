use Rattle.std.proofs.Common.{◌∙◌, ◌++◌, arith, ap, sym, take, refl, add-one, get_or, ◌∷◌, [], List}
use Rattle.std.proofs.Math.Seq.{take-suc}
use Rattle.station_base.specs.declared.row.Row.{Row}
use Rattle.archive_copy.proofs.comparing.alike.Goals as goal

pub loop-n-init : goal.loop-n-init
loop-n-init c = record { few = omega arith; same = refl }

pub loop-n-preserved : goal.loop-n-preserved
loop-n-preserved c =
    let held = c.args.held.now in let rows = c.args.rows.now in let n = c.loop-n.n in
    let one = c.index-held-n.result in let other = c.index-rows-n.result in
    let same = c.is_same.ensures.0 c.if-not-is_same.false in
    record {
      few = omega arith;
      same =
          rw (add-one) (take-suc held n one (omega (arith, c.min-most.ensures)) ∙ ap (λ (r : Row). take n held ++ r ∷ []) (sym c.index-held-n.is ∙ same ∙ c.index-rows-n.is)
          ∙ ap (λ (rs : List Row). rs ++ get_or rows n other ∷ []) c.loop-n.invariant.same ∙ sym (take-suc rows n other (omega (arith, c.min-most.ensures))));
    }
