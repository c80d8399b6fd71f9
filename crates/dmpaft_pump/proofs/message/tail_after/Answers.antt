use Rattle.std.proofs.Common.{◌≡◌, ℕ, ◌-◌, [], ◌∷◌, ◌++◌, List, length, get_or, sym, ◌∙◌, ap, refl, inr, arith, append-nil}
use Rattle.std.proofs.Math.Seq.{take-length}
use Rattle.wake_retry.specs.Settling.{tail_of}
use Rattle.wake_retry.proofs.Tails.{tail_got}
use Rattle.dmpaft_pump.proofs.message.tail_after.Goals as goal

pair_of : (xs : List ℕ) → length xs ≡ 2 → get_or xs 0 0 ∷ get_or xs 1 0 ∷ [] ≡ xs
pair_of [] l = absurd (omega arith)
pair_of (x ∷ []) l = absurd (omega arith)
pair_of (x ∷ y ∷ []) l = refl
pair_of (x ∷ y ∷ z ∷ xs) l = absurd (omega arith)

pub returns-else-bytes-gt1 : goal.returns-else-bytes-gt1
returns-else-bytes-gt1 c = λ before e.
    let xs = c.args.bytes.now in
    let two : length c.args.tail ≡ 2 = omega arith in
    tail_got before xs [] (length xs) (get_or c.args.tail 0 0) (get_or c.args.tail 1 0) _ _ c.requires (omega arith) (pair_of c.args.tail two ∙ e)
    (ap (λ (y : List ℕ). get_or y (length xs - 1) 0) (sym (append-nil xs))) (inr (omega (arith, c.if-bytes-gt1.false), refl)) ∙ ap (λ (y : List ℕ). tail_of (before ++ y)) (take-length xs)
