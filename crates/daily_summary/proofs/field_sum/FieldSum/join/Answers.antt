use Rattle.std.proofs.Common.{rules, ◌≡◌, arith, refl, ◌+◌, ◌≤◌}
use Rattle.std.specs.Prelude.{FitsSigned, ◌+ℤ◌, int_lt, if◌then◌else◌}
use Rattle.std.specs.Int.{w32, w64}
use Rattle.std.proofs.lemmas.Int.{to_z-of_z}
use Rattle.daily_summary.proofs.JoinedSums.{same_sum}
use Rattle.daily_summary.proofs.SumBounds.{abs_add, fits_below}
use Rattle.daily_summary.proofs.field_sum.FieldSum.join.Goals as goal
use Rattle.station_base.specs.Limits.{most_rows}

pub returns-clause-exact : goal.returns-clause-exact
returns-clause-exact c =
    let a = c.args.self.now in let b = c.args.later.now in
    let small : a.count + b.count ≤ most_rows = c.requires.few in
    let sa = c.requires.earlier in let sb = c.requires.later in
    let low = c.keep_least.ensures in let high = c.keep_greatest.ensures in
    let bl : FitsSigned w32 b.least = search rules in
    let bg : FitsSigned w32 b.greatest = search rules in
    let least : c.keep_least.new.least ≡ (if int_lt b.least a.least then b.least else a.least) = simp to_z-of_z at low.value in
    let least_at : c.keep_least.new.least_at ≡ (if int_lt b.least a.least then b.least_at else a.least_at) = simp to_z-of_z at low.stamp in
    let greatest : c.keep_greatest.new.greatest ≡ (if int_lt a.greatest b.greatest then b.greatest else a.greatest) = simp to_z-of_z at high.value in
    let greatest_at : c.keep_greatest.new.greatest_at ≡ (if int_lt a.greatest b.greatest then b.greatest_at else a.greatest_at) = simp to_z-of_z at high.stamp in
    let f1 : FitsSigned w64 a.sum = fits_below a.sum _ sa.sum (omega arith) in
    let f2 : FitsSigned w64 b.sum = fits_below b.sum _ sb.sum (omega arith) in
    let f3 : FitsSigned w64 (a.sum +ℤ b.sum) = fits_below (a.sum +ℤ b.sum) _ (abs_add a.sum b.sum _ _ sa.sum sb.sum) (omega arith) in
    let g1 : FitsSigned w64 a.wsum = fits_below a.wsum _ sa.wsum (omega arith) in
    let g2 : FitsSigned w64 b.wsum = fits_below b.wsum _ sb.wsum (omega arith) in
    let g3 : FitsSigned w64 (a.wsum +ℤ b.wsum) = fits_below (a.wsum +ℤ b.wsum) _ (abs_add a.wsum b.wsum _ _ sa.wsum sb.wsum) (omega arith) in
    same_sum _ _ least least_at greatest greatest_at (simp to_z-of_z) refl (simp to_z-of_z) refl
