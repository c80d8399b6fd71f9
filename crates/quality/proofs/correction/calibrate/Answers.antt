use Rattle.std.proofs.Common.{◌≡◌, ◌+ℤ◌, FitsSigned, to_z-of_z, w32, arith, rules}
use Rattle.jiff_core.proofs.SignedLemmas.{signed_arith}
use Rattle.quality.specs.Corrected.{scaled}
use Rattle.quality.proofs.correction.calibrate.Goals as goal

pub returns-clause-exact : goal.returns-clause-exact
returns-clause-exact c =
    let fits_scaled : FitsSigned w32 c.scale.result = search rules in
    let fits_add : FitsSigned w32 c.args.calibration.add = search rules in
    let fits : FitsSigned w32 (c.scale.result +ℤ c.args.calibration.add) = omega (arith, signed_arith) in
    let exact : c.scale.result ≡ scaled c.args.calibration c.args.value = search rules in
    rw (to_z-of_z fits_scaled, to_z-of_z fits_add, to_z-of_z fits, exact)
