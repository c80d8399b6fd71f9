use Rattle.std.proofs.Common.{arith}
use Rattle.station_base.proofs.NumberWidths.{number_text_width}
use Rattle.station_base.proofs.digits.digit_count.Goals as goal

pub overflow_add-count : goal.overflow_add-count
overflow_add-count c = omega (arith, c.loop-left.invariant, number_text_width c.args.number c.ranges.number.fits)

pub overflow_add-result : goal.overflow_add-result
overflow_add-result c = omega (arith, c.loop-left.invariant, c.few_digits.ensures, number_text_width c.args.number c.ranges.number.fits)
