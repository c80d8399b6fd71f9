-- What a line that is written from its front on gains.
use Rattle.std.proofs.Common.{◌≡◌, ℕ, ◌+◌, ◌≤◌, List, ◌++◌, length, take, drop, ap, sym, ◌∙◌, arith}
use Rattle.std.proofs.Math.Seq.{take-append-add, take-append_seam}
use Rattle.std.proofs.lemmas.List.{length-take-le, take-append-le, take-append-drop}
use borrow.Rule.Slice.PartMut.{put_mid, post_of}

-- a piece is copied behind the front, and its own front is kept
pub put_piece : (a k count : ℕ) (xs ys zs : List ℕ) → a ≤ length xs → count ≤ length zs → ys ≡ zs → take (a + count) (put_mid a k xs ys) ≡ take a xs ++ take count zs
put_piece a k count xs ys zs within few same =
    let rest : List ℕ = post_of a k xs in
    ap (λ (n : ℕ). take (n + count) (take a xs ++ (ys ++ rest))) (sym (length-take-le a xs within))
    ∙ take-append-add (take a xs) (ys ++ rest) count
    ∙ ap (λ (all : List ℕ). take a xs ++ take count (all ++ rest)) same
    ∙ ap (λ (all : List ℕ). take a xs ++ all) (take-append-le count zs rest few)

-- digits are written behind the front up to an end
pub put_digits : (start end : ℕ) (old new digits : List ℕ) → start + length digits ≡ end → end ≤ length new →
    drop start new ≡ digits ++ drop end old → take start new ≡ take start old → take end new ≡ take start old ++ digits
put_digits start end old new digits sum within written before =
    let front : length (take start new) ≡ start = length-take-le start new (omega arith) in
    let behind : List ℕ = digits ++ drop end old in
    let whole : new ≡ take start new ++ behind = sym (take-append-drop start new) ∙ ap (λ (rest : List ℕ). take start new ++ rest) written in
    ap (λ (n : ℕ). take n new) (sym sum)
    ∙ ap (take (start + length digits)) whole
    ∙ ap (λ (n : ℕ). take (n + length digits) (take start new ++ behind)) (sym front)
    ∙ take-append-add (take start new) behind (length digits)
    ∙ ap (λ (rest : List ℕ). take start new ++ rest) (take-append_seam digits (drop end old))
    ∙ ap (λ (xs : List ℕ). xs ++ digits) before
