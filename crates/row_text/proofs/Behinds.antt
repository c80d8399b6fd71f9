-- What stands behind, and words, taken apart and put together.
use Rattle.std.proofs.Common.{◌≡◌, ℕ, arith, List, [], ◌∷◌, ◌++◌, length, take, drop, Some, bytes_eq, refl, sym, ap, ◌∙◌}
use Rattle.std.specs.List.{position_or_len}
use Rattle.std.proofs.Math.Seq.{take-append_seam, drop-append_seam}
use Rattle.std.proofs.lemmas.List.{take-append-drop}
use Rattle.std.proofs.lemmas.Bool.{ne_eqb, eq-eqb}
use Rattle.std.proofs.lemmas.Option.{cond_some}
use Rattle.std.proofs.lemmas.Slice.Eq.{bytes_eq-Decides}
use Rattle.row_text.specs.Words.{behind, is_blank, first_word, behind_word}

-- what is behind the bytes makes the text with them
pub behind_is : (start text rest : List ℕ) → behind start text ≡ Some rest → text ≡ start ++ rest
behind_is start text rest found =
    let (same, left) = cond_some (bytes_eq (take (length start) text) start) (drop (length start) text) rest found in
    let front : take (length start) text ≡ start = (bytes_eq-Decides (take (length start) text) start).0 same in
    sym (take-append-drop (length start) text)
    ∙ ap (λ (xs : List ℕ). xs ++ drop (length start) text) front
    ∙ ap (λ (xs : List ℕ). start ++ xs) left

-- and is found in that
pub behind_at : (start rest : List ℕ) → behind start (start ++ rest) ≡ Some rest
behind_at start rest =
    rw (take-append_seam start rest, drop-append_seam start rest, (bytes_eq-Decides start start).1 refl) refl

-- a word and its rest are the text
pub word_rest : (text : List ℕ) → first_word text ++ behind_word text ≡ text
word_rest text = take-append-drop (position_or_len is_blank text) text

-- there is no blank in it
abbrev pub NoBlank : List ℕ → Type 0
NoBlank [] = Unit {0}
NoBlank (byte ∷ text) = (byte ≡ 32 → ⊥) × NoBlank text

-- a blank begins it, or nothing is left
abbrev pub Ends : List ℕ → Type 0
Ends [] = Unit {0}
Ends (byte ∷ text) = byte ≡ 32

-- so the word ends here
word_end : (word rest : List ℕ) → NoBlank word → Ends rest → position_or_len is_blank (word ++ rest) ≡ length word
word_end [] [] plain ends = refl
word_end [] (byte ∷ rest) plain ends = rw (eq-eqb byte 32 ends) refl
word_end (byte ∷ word) rest plain ends = let before = word_end word rest plain.1 ends in rw (ne_eqb byte 32 plain.0) (omega (arith, before))

pub word_is : (word rest : List ℕ) → NoBlank word → Ends rest → first_word (word ++ rest) ≡ word
word_is word rest plain ends =
    ap (λ (n : ℕ). take n (word ++ rest)) (word_end word rest plain ends) ∙ take-append_seam word rest

pub rest_is : (word rest : List ℕ) → NoBlank word → Ends rest → behind_word (word ++ rest) ≡ rest
rest_is word rest plain ends =
    ap (λ (n : ℕ). drop n (word ++ rest)) (word_end word rest plain ends) ∙ drop-append_seam word rest
