use Rattle.std.proofs.Common.{◌≡◌, ◌+◌, length}
use Rattle.station_base.specs.NumberText.{number_text}
use Rattle.station_base.proofs.digits.digit_count.Given as goal

abbrev pub invariant-loop-left : goal.invariant-loop-left
invariant-loop-left l = l.count + length (number_text l.left) ≡ length (number_text l.number)

abbrev pub decreases-loop-left : goal.decreases-loop-left
decreases-loop-left l = l.left
