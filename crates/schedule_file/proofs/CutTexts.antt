-- Texts that are cut at a byte.
use Rattle.std.proofs.Common.{◌≡◌, ℕ, suc, ◌+◌, ◌<◌, ◌≤◌, Bool, true, false, cond, Some, None, List, [], ◌∷◌, take, drop, length, get_or, refl, sym, arith, add-one}
use Rattle.std.specs.Prelude.{nat_lt, position, ◌==◌, not, if◌then◌else◌}
use Rattle.std.specs.List.{position_or_len}
use Rattle.std.proofs.Math.Seq.{drop-cons}
use Rattle.std.proofs.lemmas.List.{take_all, drop_all}
use Rattle.std.proofs.lemmas.Bool.{lt-ltb}
use Rattle.schedule_file.specs.Pieces.{in_front, pieces, pieces_left, lines_ended, last_piece, lines_of, words_of, words_left}

-- where a text is cut first
abbrev place : ℕ → List ℕ → ℕ
place separator text = position_or_len (λ byte. byte == separator) text

some_at : (within : Bool) (n end : ℕ) → cond within (Some n) None ≡ Some end → n ≡ end
some_at true n end e = cc
some_at false n end e = cc

none_at : (within : Bool) (n : ℕ) → cond within (Some n) None ≡ None → within ≡ false
none_at true n e = cc
none_at false n e = refl

place_within : (separator : ℕ) (text : List ℕ) → place separator text ≤ length text
place_within separator [] = omega arith
place_within separator (byte ∷ text) = within (byte == separator) (place_within separator text)
  where
    within : (cuts : Bool) → place separator text ≤ length text → cond (not cuts) (1 + place separator text) 0 ≤ suc (length text)
    within true le = omega arith
    within false le = omega arith

-- a byte that is found stands at its place
pub place_found : (separator : ℕ) (text : List ℕ) (end : ℕ) → position (λ byte. byte == separator) text ≡ Some end → end ≡ place separator text
place_found separator text end e = sym (some_at (nat_lt (place separator text) (length text)) (place separator text) end e)

-- where none is found the place is the length
pub place_missing : (separator : ℕ) (text : List ℕ) → position (λ byte. byte == separator) text ≡ None → length text ≡ place separator text
place_missing separator text e =
    let not_within : nat_lt (place separator text) (length text) ≡ false = none_at (nat_lt (place separator text) (length text)) (place separator text) e in
    let le = place_within separator text in
    grind (arith, not_within, le, lt-ltb)

cut_byte : (cuts : Bool) (separator byte n : ℕ) (text : List ℕ) → pieces separator text ≡ take n text ∷ pieces_left separator (drop n text)
    → (if cuts then [] ∷ pieces separator text else in_front byte (pieces separator text))
    ≡ take (cond (not cuts) (1 + n) 0) (byte ∷ text) ∷ pieces_left separator (drop (cond (not cuts) (1 + n) 0) (byte ∷ text))
cut_byte true separator byte n text rest = refl
cut_byte false separator byte n text rest =
    let e : 1 + n ≡ suc n = omega arith in
    rw (e, rest) refl

-- the first piece is what stands before the first separator
pub cut_at : (separator : ℕ) (text : List ℕ)
    → pieces separator text ≡ take (place separator text) text ∷ pieces_left separator (drop (place separator text) text)
cut_at separator [] = refl
cut_at separator (byte ∷ text) = cut_byte (byte == separator) separator byte (place separator text) text (cut_at separator text)

-- a word, and what comes behind it
pub word_cut : (text : List ℕ) (end : ℕ) → end ≡ place 32 text → words_of text ≡ take end text ∷ words_left (drop end text)
word_cut text end e = rw e (cut_at 32 text)

-- before more pieces a line stays
ended_more : (line rest : List ℕ) → lines_ended (line ∷ pieces 10 rest) ≡ line ∷ lines_of rest
ended_more line rest = rw (cut_at 10 rest) refl

-- a line that ends with LF
pub line_cut : (text : List ℕ) (end : ℕ) → end ≡ place 10 text → end < length text
    → lines_of text ≡ take end text ∷ lines_of (drop (end + 1) text)
line_cut text end e within =
    let cut : pieces 10 text ≡ take end text ∷ pieces_left 10 (drop end text) = rw e (cut_at 10 text) in
    let behind : drop end text ≡ get_or text end 0 ∷ drop (end + 1) text = rw add-one (drop-cons text end 0 within) in
    rw (cut, behind) (ended_more (take end text) (drop (end + 1) text))

whole_line : (text : List ℕ) → 0 < length text → last_piece text ≡ text ∷ []
whole_line [] some = absurd (omega arith)
whole_line (byte ∷ text) some = refl

-- a last line without one
pub line_last : (text : List ℕ) (end : ℕ) → end ≡ place 10 text → length text ≤ end → 0 < length text
    → lines_of text ≡ text ∷ lines_of (drop end text)
line_last text end e past some =
    let cut : pieces 10 text ≡ take end text ∷ pieces_left 10 (drop end text) = rw e (cut_at 10 text) in
    let all : take end text ≡ text = take_all end text past in
    let none : drop end text ≡ [] = drop_all end text past in
    rw (cut, none, all) (whole_line text some)
