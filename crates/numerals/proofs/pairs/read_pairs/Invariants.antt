use Rattle.std.proofs.Common.{◌≡◌, ◌+◌, ◌*◌, ◌≤◌, ◌++◌, Some, length}
use Rattle.numerals.specs.Then.{◌>>=◌}
use Rattle.numerals.specs.Pairs.{pairs_of}
use Rattle.numerals.proofs.pairs.read_pairs.Given as goal

-- the bytes before, and those of the pairs ahead
abbrev pub invariant-loop-rest : goal.invariant-loop-rest
invariant-loop-rest g l = record {
  whole : pairs_of l.word ≡ (pairs_of l.rest >>= (λ bytes. Some (l.bytes.items ++ bytes)));
  long : 2 * length l.bytes.items + length l.rest ≡ length l.word;
  few : length l.word ≤ 2 * g.row.MOST;
  some : 1 ≤ length l.word;
}

abbrev pub decreases-loop-rest : goal.decreases-loop-rest
decreases-loop-rest g l = length l.rest
