use Rattle.std.proofs.Common.{arith, Some}
use Rattle.std.specs.Prelude.{FitsSigned}
use Rattle.std.specs.Int.{w32}
use Rattle.std.proofs.lemmas.Int.{to_z-of_z, fits_signed_from_abs}
use Rattle.station_base.specs.RowLine.{IsPrintable}
use Rattle.daily_summary.proofs.SumBounds.{near}
use Rattle.daily_summary.proofs.running.RunningField.add.Goals as goal

pub returns-in-Some : goal.returns-in-Some
returns-in-Some c =
    let z = c.in-Some.value in
    let printable : IsPrintable (Some z) = rw c.in-Some.is at c.requires.printable in
    let small = near z printable in
    let fits : FitsSigned w32 z = fits_signed_from_abs w32 z (omega (arith, small)) in
    rw (c.in-Some.is) (simp to_z-of_z at c.push.ensures)
