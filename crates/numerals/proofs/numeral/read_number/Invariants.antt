use Rattle.std.proofs.Common.{◌<◌, ◌≤◌, length}
use Rattle.numerals.proofs.Digits.{AreRead}
use Rattle.numerals.proofs.numeral.read_number.Given as goal

-- the digits before write the number
abbrev pub invariant-loop-digit : goal.invariant-loop-digit
invariant-loop-digit l = record {
  read : AreRead l.base l.digit-index l.number l.digits;
  nonempty : 0 < length l.digits;
  short : length l.digits ≤ l.most;
}
