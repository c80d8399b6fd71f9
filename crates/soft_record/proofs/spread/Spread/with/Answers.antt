use Rattle.std.proofs.Common.{ℤ, ◌*◌, ◌≡◌, ◌≤◌, sym, ap, subst, arith, ◌∙◌, IfSome, unsigned_abs, w32, to_z, of_z, FitsSigned, refl}
use Rattle.std.specs.Prelude.{◌+ℤ◌}
use Rattle.std.specs.Int.{int_min, int_max}
use Rattle.std.specs.declared.option.Option.{Option}
use Rattle.std.proofs.lemmas.Int.{to_z-of_z, fits_signed_from_abs}
use Rattle.soft_record.specs.Numbers.{with_number}
use Rattle.soft_record.specs.Spread.{IsSpreadOf}
use Rattle.soft_record.proofs.RunningSums.{with_more}
use Rattle.soft_record.proofs.Within.{max_small, min_small, sum_small}
use Rattle.soft_record.proofs.spread.Spread.with.Goals as goal

pub returns-clause-spread : goal.returns-clause-spread
returns-clause-spread c numbers is =
    let s = c.args.self in
    let n = c.in-Some.number in
    let more = c.more.ensures in
    let Small : Option ℤ → Type 0 = λ (o : Option ℤ). IfSome o (λ (m : ℤ). unsigned_abs m ≤ 65535) in
    let small : unsigned_abs n ≤ 65535 = subst Small c.in-Some.is c.requires.reading in
    let fits : FitsSigned w32 n = fits_signed_from_abs w32 n (omega (arith, small)) in
    let same : to_z w32 (of_z w32 n) ≡ n = simp to_z-of_z refl in
    let some : 1 ≤ s.count = omega (arith, c.if-self-eq0.false) in
    let P : Option ℤ → Type 0 = λ (o : Option ℤ). IsSpreadOf (with_number numbers o) c.more.result in
    subst P (sym c.in-Some.is)
    (with_more numbers s c.more.result n some more.count
    (more.sum ∙ ap (λ (z : ℤ). s.sum +ℤ z) same)
    (more.least ∙ ap (λ (z : ℤ). int_min s.least z) same)
    (more.greatest ∙ ap (λ (z : ℤ). int_max s.greatest z) same) is)

pub returns-clause-small : goal.returns-clause-small
returns-clause-small c =
    let s = c.args.self in
    let n = c.in-Some.number in
    let more = c.more.ensures in
    let small = c.requires.small in
    let Small : Option ℤ → Type 0 = λ (o : Option ℤ). IfSome o (λ (m : ℤ). unsigned_abs m ≤ 65535) in
    let reading : unsigned_abs n ≤ 65535 = subst Small c.in-Some.is c.requires.reading in
    let fits : FitsSigned w32 n = fits_signed_from_abs w32 n (omega (arith, reading)) in
    let same : to_z w32 (of_z w32 n) ≡ n = simp to_z-of_z refl in
    record {
      sum = rw (more.sum ∙ ap (λ (z : ℤ). s.sum +ℤ z) same, more.count)
          (omega (arith, sum_small s.sum n (65535 * s.count) 65535 small.sum reading));
      least = rw (more.least ∙ ap (λ (z : ℤ). int_min s.least z) same) (min_small s.least n 65535 small.least reading);
      greatest = rw (more.greatest ∙ ap (λ (z : ℤ). int_max s.greatest z) same) (max_small s.greatest n 65535 small.greatest reading);
    }
