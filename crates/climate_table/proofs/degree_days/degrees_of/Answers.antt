use Rattle.std.proofs.Common.{rules, refl, arith, ◌≡◌, ◌+◌, ◌*◌, ◌≤◌, ◌<◌, ◌^◌, ℕ, ℤ, pos, to_z, w64}
use Rattle.std.specs.Prelude.{FitsSigned, unsigned_abs, ◌*ℤ◌, ◌-ℤ◌}
use Rattle.std.proofs.Math.Facts.{to_z_pos}
use Rattle.std.proofs.lemmas.Int.{fits_signed_from_abs, ints, to_z-of_z, unsigned_abs-mul}
use Rattle.climate_table.proofs.degree_days.degrees_of.Goals as goal

fits_less : (a b : ℤ) (m n : ℕ) → unsigned_abs a ≤ m → unsigned_abs b ≤ n → m + n < 2 ^ 63 → FitsSigned w64 (a -ℤ b)
fits_less a b m n ha hb small =
    let near : unsigned_abs (a -ℤ b) ≤ m + n = omega (arith, ints) in fits_signed_from_abs w64 (a -ℤ b) (omega arith)

base_size : (n : ℕ) → unsigned_abs (pos 650 *ℤ pos n) ≤ 650 * n
base_size n = omega (arith, unsigned_abs-mul (pos 650) (pos n))

pub returns-clause-exact : goal.returns-clause-exact
returns-clause-exact c =
    let s = c.args.sum.now in let n = s.sumtime in let base = pos 650 *ℤ pos n in
    let long = c.requires.sum.longest in let few = c.requires.few in let near = c.requires.sum.wsum in let size = base_size n in
    let time : to_z w64 n ≡ pos n = to_z_pos w64 (omega (arith, long, few)) in
    let f1 : FitsSigned w64 (pos 650 *ℤ pos n) = fits_signed_from_abs w64 base (omega (arith, size, long, few)) in
    let f2 : FitsSigned w64 s.wsum = fits_signed_from_abs w64 s.wsum (omega (arith, near, long, few)) in
    let f3 : FitsSigned w64 (pos 650 *ℤ pos n -ℤ s.wsum) = fits_less base s.wsum _ _ size near (omega (arith, long, few)) in
    let f4 : FitsSigned w64 (s.wsum -ℤ pos 650 *ℤ pos n) = fits_less s.wsum base _ _ near size (omega (arith, long, few)) in
    let f5 : FitsSigned w64 c.max.result = search rules in
    let f6 : FitsSigned w64 c.max-2.result = search rules in
    let v = simp (time, to_z-of_z) at c.max.ensures.value in
    let w = simp (time, to_z-of_z) at c.max-2.ensures.value in
    rw (to_z-of_z w64 c.max.result f5, to_z-of_z w64 c.max-2.result f6) (rw (v, w) refl)
