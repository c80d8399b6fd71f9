use Rattle.std.proofs.Common.{◌≡◌, ◌≤◌, ◌*◌, ◌++◌, drop, false}
use Rattle.fleet.specs.Lines.{numbered_lines, pen_after, is_stuck}
use Rattle.arrayvec.specs.ArrayVec.{array_vec_len}
use Rattle.fleet.proofs.numbered.write_heads.Given as goal

-- the text so far and that of what is left are the whole, and the pen goes on from here
abbrev pub invariant-loop-byte : goal.invariant-loop-byte
invariant-loop-byte l = record {
  text : l.text.items ++ numbered_lines l.digit l.pen (drop l.byte-index l.piece) ≡ numbered_lines l.fn.digit l.fn.pen l.piece;
  pen : pen_after l.pen (drop l.byte-index l.piece) ≡ pen_after l.fn.pen l.piece;
  free : is_stuck l.pen ≡ false;
  room : array_vec_len l.text ≤ 3 * l.byte-index;
}
