use Rattle.std.proofs.Common.{arith}
use Rattle.station_base.proofs.NumberWidths.{signed_text_width, printable_back}
use Rattle.station_base.proofs.row.push_value.Goals as goal

pub put_signed-requires : goal.put_signed-requires
put_signed-requires c =
    let within = c.requires.printable c.in-Some.value c.in-Some.is in
    rw (printable_back c.in-Some.value within) (omega (arith, signed_text_width c.in-Some.value within))

pub returns-in-Some-clause-length : goal.returns-in-Some-clause-length
returns-in-Some-clause-length c =
    let within = c.requires.printable c.in-Some.value c.in-Some.is in
    let short = rw (printable_back c.in-Some.value within) at c.put_signed.ensures.length in
    omega (arith, signed_text_width c.in-Some.value within)
