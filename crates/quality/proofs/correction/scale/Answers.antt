use Rattle.std.proofs.Common.{◌≡◌, ◌*ℤ◌, FitsSigned, to_z-of_z, w32, arith, rules}
use Rattle.quality.specs.Corrected.{scaled}
use Rattle.quality.proofs.Ranges.{scaled_within, product_within, fits_within}
use Rattle.quality.proofs.correction.scale.Goals as goal

pub returns-clause-exact : goal.returns-clause-exact
returns-clause-exact c =
    let k = c.args.calibration in
    let is = c.requires.calibration in
    let fits_num : FitsSigned w32 k.num = search rules in
    let fits_den : FitsSigned w32 k.den = search rules in
    let fits_value : FitsSigned w32 c.args.value = c.ranges.value in
    let product = product_within c.args.value k.num c.requires.reading is.num_from is.num_to in
    let fits_product : FitsSigned w32 (c.args.value *ℤ k.num) = fits_within 1048560 (c.args.value *ℤ k.num) (omega arith) product in
    let fits : FitsSigned w32 c.floor_div.result = search rules in
    let exact : c.floor_div.result ≡ scaled k c.args.value = simp to_z-of_z at c.floor_div.ensures.exact in
    rw (to_z-of_z fits) exact

pub returns-clause-range : goal.returns-clause-range
returns-clause-range c =
    rw (returns-clause-exact c) (scaled_within c.args.calibration c.args.value c.requires.calibration c.requires.reading)
