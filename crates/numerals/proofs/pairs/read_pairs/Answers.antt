use Rattle.std.proofs.Common.{ℕ, length-append, length-drop, ◌≤◌, ◌∙◌, sym, length, arith, refl}
use Rattle.std.proofs.lemmas.Bool.{eqb-true}
use Rattle.std.proofs.lemmas.List.{take_rest}
use Rattle.numerals.proofs.PairByPair.{pair_more, bytes_empty, bytes_long}
use Rattle.numerals.proofs.pairs.read_pairs.Goals as goal
use Rattle.numerals.proofs.pairs.read_pairs.Goals.{then-is_empty-via-then-is_empty, then-is_empty-via-else-is_empty+then-word}

pub returns-then-is_empty-clause-bytes : goal.returns-then-is_empty-clause-bytes
returns-then-is_empty-clause-bytes g c =
    elim c.then-is_empty.branch [
      | then-is_empty-via-then-is_empty w ↦ rw (← bytes_empty g.row.MOST c.args.word.now (eqb-true (length c.args.word.now) 0 (sym c.is_empty.ensures ∙ w.if-is_empty.true))) refl
      | then-is_empty-via-else-is_empty+then-word w ↦ rw (← bytes_long g.row.MOST c.args.word.now (omega arith)) refl
    ]

pub loop-rest-preserved : goal.loop-rest-preserved
loop-rest-preserved g c =
    let rest = c.loop-rest.rest.now in
    let two : 2 ≤ length rest = omega arith in
    let more = pair_more c.loop-rest.bytes.items rest c.in_ok-read_pair.field-0 two (sym c.read_pair.ensures ∙ c.in_ok-read_pair.was) in
    record {
      whole = rw (take_rest rest 2, c.push.ensures.items) (c.loop-rest.invariant.whole ∙ more);
      long = grind (arith, length-append {A = ℕ}, c.push.ensures.items, length-drop {A = ℕ});
      few = c.loop-rest.invariant.few;
      some = c.loop-rest.invariant.some;
    }
