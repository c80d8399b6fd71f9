use Rattle.std.proofs.Common.{◌∙◌, sym, arith}
use Rattle.std.proofs.lemmas.Bool.{eqb-true}
use Rattle.crc_ccitt.proofs.Unsealed.{sealed_of_good}
use Rattle.crc_ccitt.proofs.frame.is_good.Goals as goal

pub returns-clause-sealed : goal.returns-clause-sealed
returns-clause-sealed c passed long =
    sealed_of_good c.args.frame.now (λ i. omega (arith, c.type_inv.frame i)) long (sym c.crc.ensures.check ∙ eqb-true c.crc.result 0 passed)
