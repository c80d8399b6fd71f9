use Rattle.std.proofs.Common.{◌≡◌, FitsSigned, to_z-of_z, w32, rules}
use Rattle.std.specs.Int.{int_div_euclid}
use Rattle.quality.proofs.Floor.{quotient_at_most, quotient_greatest}
use Rattle.quality.proofs.correction.floor_div.Goals as goal

pub returns-clause-at_most : goal.returns-clause-at_most
returns-clause-at_most c =
    let fits : FitsSigned w32 c.div_euclid.result = search rules in
    let exact : c.div_euclid.result ≡ int_div_euclid c.args.dividend c.args.divisor = search rules in
    rw (to_z-of_z fits, exact) (quotient_at_most c.args.dividend c.args.divisor c.requires)

pub returns-clause-greatest : goal.returns-clause-greatest
returns-clause-greatest c =
    let fits : FitsSigned w32 c.div_euclid.result = search rules in
    let exact : c.div_euclid.result ≡ int_div_euclid c.args.dividend c.args.divisor = search rules in
    rw (to_z-of_z fits, exact) (quotient_greatest c.args.dividend c.args.divisor c.requires)
