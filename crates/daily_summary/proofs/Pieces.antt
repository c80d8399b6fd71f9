-- Bytes that are written one behind another over zeros.
use Rattle.std.proofs.Common.{◌≡◌, ℕ, ◌+◌, ◌≤◌, List, [], ◌++◌, length, take, drop, refl, ap, sym, ◌∙◌, arith, append_assoc, append-nil}
use Rattle.std.specs.Prelude.{ℤ, FitsSigned, Some}
use Rattle.byteorder.specs.Endian.{little_bytes}
use Rattle.station_base.specs.Stamp.{date_word_of, time_word_of}
use Rattle.daily_summary.specs.declared.field_sum.FieldSum.{FieldSum}
use Rattle.daily_summary.specs.Parts.{field_entry}
use Rattle.std.specs.Int.{w32, w64, cast_signed, cast_unsigned}
use Rattle.std.proofs.Math.Seq.{take-append_seam, drop-append_seam}
use Rattle.std.proofs.lemmas.Int.{to_z-of_z}
use Rattle.std.proofs.lemmas.List.{length-drop, drop-drop, drop_all, take_all}
use borrow.Rule.Slice.PartMut.{put_mid}

-- one piece more
pub piece : (a n r b : ℕ) (front xs part new zeros : List ℕ) → a + n ≡ b → length front ≡ a → xs ≡ front ++ drop a zeros → length zeros ≡ a + r → n ≤ r → new ≡ part ++ drop n (take r (drop a xs)) →
    put_mid a r xs new ≡ (front ++ part) ++ drop b zeros
piece a n r b front xs part new zeros at long is all fits written =
    let behind : drop a xs ≡ drop a zeros = ap (drop a) is ∙ ap (λ (k : ℕ). drop k (front ++ drop a zeros)) (sym long) ∙ drop-append_seam front (drop a zeros) in
    let before : take a xs ≡ front = ap (take a) is ∙ ap (λ (k : ℕ). take k (front ++ drop a zeros)) (sym long) ∙ take-append_seam front (drop a zeros) in
    let rest : length (drop a zeros) ≡ r = omega (arith, length-drop a zeros) in
    let whole : take r (drop a xs) ≡ drop a zeros = ap (take r) behind ∙ take_all r (drop a zeros) (omega (arith, rest)) in
    let none : drop r (drop a xs) ≡ [] = ap (drop r) behind ∙ drop_all r (drop a zeros) (omega (arith, rest)) in
    let new_is : new ≡ part ++ drop b zeros = written ∙ ap (λ (ys : List ℕ). part ++ drop n ys) whole ∙ ap (λ (ys : List ℕ). part ++ ys) (drop-drop n a zeros ∙ ap (λ (k : ℕ). drop k zeros) at) in
    ap (λ (ys : List ℕ). take a xs ++ (new ++ ys)) none ∙ ap (λ (ys : List ℕ). take a xs ++ ys) (append-nil new) ∙ ap (λ (ys : List ℕ). ys ++ new) before ∙ ap (λ (ys : List ℕ). front ++ ys) new_is
    ∙ sym (append_assoc front part (drop b zeros))

pub again_32 : (z : ℤ) → FitsSigned w32 z → cast_unsigned w32 (cast_signed w32 (cast_unsigned w32 z)) ≡ cast_unsigned w32 z
again_32 z fits = ap (cast_unsigned w32) (to_z-of_z w32 z fits)

pub again_64 : (z : ℤ) → FitsSigned w64 z → cast_unsigned w64 (cast_signed w64 (cast_unsigned w64 z)) ≡ cast_unsigned w64 z
again_64 z fits = ap (cast_unsigned w64) (to_z-of_z w64 z fits)

pub entry_made : (s : FieldSum) (least greatest sum wsum d1 t1 d2 t2 : ℕ) → least ≡ cast_unsigned w32 s.least → greatest ≡ cast_unsigned w32 s.greatest → sum ≡ cast_unsigned w64 s.sum →
    wsum ≡ cast_unsigned w64 s.wsum → d1 ≡ date_word_of s.least_at → t1 ≡ time_word_of s.least_at → d2 ≡ date_word_of s.greatest_at → t2 ≡ time_word_of s.greatest_at →
    (((((((((little_bytes 4 least ++ little_bytes 2 d1) ++ little_bytes 2 t1) ++ little_bytes 4 greatest) ++ little_bytes 2 d2) ++ little_bytes 2 t2) ++ little_bytes 8 sum) ++ little_bytes 4 s.count)
    ++ little_bytes 8 wsum) ++ little_bytes 8 s.sumtime) ++ [] ≡ field_entry (Some s)
entry_made s least greatest sum wsum d1 t1 d2 t2 e1 e2 e3 e4 e5 e6 e7 e8 = rw (e1, e2, e3, e4, e5, e6, e7, e8) refl

-- bytes put behind others
pub put_behind : (a k : ℕ) (front rest ys : List ℕ) → length front ≡ a → put_mid a k (front ++ rest) ys ≡ front ++ (ys ++ drop k rest)
put_behind a k front rest ys long =
    let before : take a (front ++ rest) ≡ front = ap (λ (n : ℕ). take n (front ++ rest)) (sym long) ∙ take-append_seam front rest in
    let behind : drop a (front ++ rest) ≡ rest = ap (λ (n : ℕ). drop n (front ++ rest)) (sym long) ∙ drop-append_seam front rest in
    ap (λ (xs : List ℕ). xs ++ (ys ++ drop k (drop a (front ++ rest)))) before ∙ ap (λ (xs : List ℕ). front ++ (ys ++ drop k xs)) behind
