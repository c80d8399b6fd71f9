-- Parts that stand one behind the other: what is spelled of them is read again, and what is read is spelled again.
use Rattle.std.proofs.Common.{◌≡◌, ℕ, ◌+◌, ◌*◌, ◌/◌, ◌%◌, ◌<◌, ◌≤◌, Bool, true, ◌&&◌, List, [], ◌∷◌, ◌++◌, length, take, drop, refl, sym, ap, subst, ◌∙◌, arith, append_assoc, length-append, length-drop, nat_eq}
use Rattle.std.specs.Prelude.{ℤ, pos, negsuc, FitsSigned}
use Rattle.std.specs.Int.{w8, w16, to_le_bytes, cast_signed, cast_unsigned}
use Rattle.std.proofs.Math.Seq.{drop-append_seam, take-append_seam, take-add}
use Rattle.std.proofs.lemmas.Bool.{and_parts, eqb-true}
use Rattle.std.proofs.lemmas.Int.{of_z-to_z, to_z-of_z}
use Rattle.std.proofs.lemmas.List.{drop-drop}
use Rattle.causes.specs.Lists.{AreBytes}
use Rattle.causes.proofs.Bytes.{bytes_behind}
use Rattle.loop_packet.specs.Part.{PacketPart, Value, values_of_parts, spelled_parts, byte_in, signed_byte_in, word_in, signed_word_in, signed_byte_of, word_of, signed_word_of}
use Rattle.loop_packet.specs.Part.PacketPart.{Fixed, Byte, SignedByte, Word, SignedWord, Bytes}
use Rattle.loop_packet.specs.Part.Value.{Number, Signed, Many}

-- how many bytes a part has
abbrev pub width : PacketPart → ℕ
width (Fixed text) = length text
width Byte = 1
width SignedByte = 1
width Word = 2
width SignedWord = 2
width (Bytes count) = count

-- how many bytes the parts have
abbrev pub size : List (ℕ × PacketPart) → ℕ
size [] = 0
size (part ∷ parts) = width part.1 + size parts

-- each part stands right behind the one before
abbrev pub is_in_order : ℕ → List (ℕ × PacketPart) → Bool
is_in_order place [] = true
is_in_order place (part ∷ parts) = nat_eq part.0 place && is_in_order (place + width part.1) parts

-- the fixed bytes of the parts stand at their places
abbrev pub HasFixed : List (ℕ × PacketPart) → List ℕ → Type 0
HasFixed [] bytes = Unit {0}
HasFixed ((place, Fixed text) ∷ parts) bytes = (take (length text) (drop place bytes) ≡ text) × HasFixed parts bytes
HasFixed (part ∷ parts) bytes = HasFixed parts bytes

-- one byte, read and spelled
byte_again : (xs : List ℕ) → 1 ≤ length xs → byte_in xs ∷ [] ≡ take 1 xs
unfolding byte_in
byte_again [] long = absurd (omega arith)
byte_again (x ∷ xs) long = refl

signed_byte_again : (xs : List ℕ) → 1 ≤ length xs → AreBytes xs → signed_byte_of (signed_byte_in xs) ≡ take 1 xs
unfolding signed_byte_of signed_byte_in
signed_byte_again [] long fits = absurd (omega arith)
signed_byte_again (x ∷ xs) long fits =
    let small : x < 256 = fits 0 in
    let same : cast_unsigned w8 (cast_signed w8 x) ≡ x = of_z-to_z w8 x small in
    let low : x % 256 ≡ x = omega arith in
    ap (to_le_bytes w8) same ∙ ap (λ (n : ℕ). n ∷ []) low

two_bytes : (n : ℕ) → length (word_of n) ≡ 2
unfolding word_of
two_bytes n = refl

two_signed_bytes : (z : ℤ) → length (signed_word_of z) ≡ 2
unfolding signed_word_of
two_signed_bytes z = refl

-- so many bytes at the front
front_of : (count : ℕ) (bytes rest : List ℕ) → length bytes ≡ count → take count (bytes ++ rest) ≡ bytes
front_of count bytes rest long = ap (λ (n : ℕ). take n (bytes ++ rest)) (sym long) ∙ take-append_seam bytes rest

one_byte : (z : ℤ) → length (signed_byte_of z) ≡ 1
unfolding signed_byte_of
one_byte z = refl

-- two bytes, read and spelled
low_and_high : (x y : ℕ) → x < 256 → y < 256 → to_le_bytes w16 (x + y * 256) ≡ x ∷ y ∷ []
low_and_high x y x_small y_small =
    let low : (x + y * 256) % 256 ≡ x = omega arith in
    let high : (x + y * 256) / 256 % 256 ≡ y = omega arith in
    ap (λ (n : ℕ). n ∷ (x + y * 256) / 256 % 256 ∷ []) low ∙ ap (λ (n : ℕ). x ∷ n ∷ []) high

word_again : (xs : List ℕ) → 2 ≤ length xs → AreBytes xs → word_of (word_in xs) ≡ take 2 xs
unfolding word_of word_in
word_again [] long fits = absurd (omega arith)
word_again (x ∷ []) long fits = absurd (omega arith)
word_again (x ∷ y ∷ xs) long fits = low_and_high x y (fits 0) (fits 1)

signed_word_again : (xs : List ℕ) → 2 ≤ length xs → AreBytes xs → signed_word_of (signed_word_in xs) ≡ take 2 xs
unfolding signed_word_of signed_word_in
signed_word_again [] long fits = absurd (omega arith)
signed_word_again (x ∷ []) long fits = absurd (omega arith)
signed_word_again (x ∷ y ∷ xs) long fits =
    let x_small : x < 256 = fits 0 in
    let y_small : y < 256 = fits 1 in
    let small : x + y * 256 < 65536 = omega arith in
    ap (to_le_bytes w16) (of_z-to_z w16 (x + y * 256) small) ∙ low_and_high x y x_small y_small

-- one part more
step : (cell rest : List ℕ) (place w n : ℕ) (bytes : List ℕ) → cell ≡ take w (drop place bytes) → rest ≡ take n (drop (place + w) bytes) → cell ++ rest ≡ take (w + n) (drop place bytes)
step cell rest place w n bytes front behind =
    ap (λ (xs : List ℕ). xs ++ rest) front
    ∙ ap (λ (xs : List ℕ). take w (drop place bytes) ++ xs) (behind ∙ ap (take n) (sym (drop-drop w place bytes)))
    ∙ sym (take-add w n (drop place bytes))

-- there are so many bytes behind a place
behind_place : (place w : ℕ) (bytes : List ℕ) → place + w ≤ length bytes → w ≤ length (drop place bytes)
behind_place place w bytes long = omega (arith, length-drop place bytes)

-- what is read of bytes is spelled as these bytes
pub spelled_again : (parts : List (ℕ × PacketPart)) (place : ℕ) (bytes : List ℕ) → is_in_order place parts ≡ true → HasFixed parts bytes → place + size parts ≤ length bytes → AreBytes bytes →
    spelled_parts parts (values_of_parts parts bytes) ≡ take (size parts) (drop place bytes)
spelled_again [] place bytes order fixed long fits = refl
spelled_again ((at, Fixed text) ∷ parts) place bytes order fixed long fits =
    let both = and_parts (nat_eq at place) (is_in_order (place + length text) parts) order in
    let here : at ≡ place = eqb-true at place both.0 in
    let rest : (place + length text) + size parts ≤ length bytes = omega arith in
    let stands : text ≡ take (length text) (drop place bytes) = sym fixed.0 ∙ ap (λ (n : ℕ). take (length text) (drop n bytes)) here in
    step text (spelled_parts parts (values_of_parts parts bytes)) place (length text) (size parts) bytes stands
    (spelled_again parts (place + length text) bytes both.1 fixed.1 rest fits)
spelled_again ((at, Byte) ∷ parts) place bytes order fixed long fits =
    let both = and_parts (nat_eq at place) (is_in_order (place + 1) parts) order in
    let here : at ≡ place = eqb-true at place both.0 in
    let rest : (place + 1) + size parts ≤ length bytes = omega arith in
    let cell : byte_in (drop at bytes) ∷ [] ≡ take 1 (drop place bytes) = rw here (byte_again (drop place bytes) (behind_place place 1 bytes (omega arith))) in
    step (byte_in (drop at bytes) ∷ []) (spelled_parts parts (values_of_parts parts bytes)) place 1 (size parts) bytes cell
    (spelled_again parts (place + 1) bytes both.1 fixed rest fits)
spelled_again ((at, SignedByte) ∷ parts) place bytes order fixed long fits =
    let both = and_parts (nat_eq at place) (is_in_order (place + 1) parts) order in
    let here : at ≡ place = eqb-true at place both.0 in
    let rest : (place + 1) + size parts ≤ length bytes = omega arith in
    let cell : signed_byte_of (signed_byte_in (drop at bytes)) ≡ take 1 (drop place bytes) = rw here (signed_byte_again (drop place bytes) (behind_place place 1 bytes (omega arith)) (bytes_behind place bytes fits)) in
    step (signed_byte_of (signed_byte_in (drop at bytes))) (spelled_parts parts (values_of_parts parts bytes)) place 1 (size parts) bytes cell
    (spelled_again parts (place + 1) bytes both.1 fixed rest fits)
spelled_again ((at, Word) ∷ parts) place bytes order fixed long fits =
    let both = and_parts (nat_eq at place) (is_in_order (place + 2) parts) order in
    let here : at ≡ place = eqb-true at place both.0 in
    let rest : (place + 2) + size parts ≤ length bytes = omega arith in
    let cell : word_of (word_in (drop at bytes)) ≡ take 2 (drop place bytes) = rw here (word_again (drop place bytes) (behind_place place 2 bytes (omega arith)) (bytes_behind place bytes fits)) in
    step (word_of (word_in (drop at bytes))) (spelled_parts parts (values_of_parts parts bytes)) place 2 (size parts) bytes cell
    (spelled_again parts (place + 2) bytes both.1 fixed rest fits)
spelled_again ((at, SignedWord) ∷ parts) place bytes order fixed long fits =
    let both = and_parts (nat_eq at place) (is_in_order (place + 2) parts) order in
    let here : at ≡ place = eqb-true at place both.0 in
    let rest : (place + 2) + size parts ≤ length bytes = omega arith in
    let cell : signed_word_of (signed_word_in (drop at bytes)) ≡ take 2 (drop place bytes) = rw here (signed_word_again (drop place bytes) (behind_place place 2 bytes (omega arith)) (bytes_behind place bytes fits)) in
    step (signed_word_of (signed_word_in (drop at bytes))) (spelled_parts parts (values_of_parts parts bytes)) place 2 (size parts) bytes cell
    (spelled_again parts (place + 2) bytes both.1 fixed rest fits)
spelled_again ((at, Bytes count) ∷ parts) place bytes order fixed long fits =
    let both = and_parts (nat_eq at place) (is_in_order (place + count) parts) order in
    let here : at ≡ place = eqb-true at place both.0 in
    let rest : (place + count) + size parts ≤ length bytes = omega arith in
    let cell : take count (drop at bytes) ≡ take count (drop place bytes) = ap (λ (n : ℕ). take count (drop n bytes)) here in
    step (take count (drop at bytes)) (spelled_parts parts (values_of_parts parts bytes)) place count (size parts) bytes cell
    (spelled_again parts (place + count) bytes both.1 fixed rest fits)

-- the values are of the parts' kinds, and within their ranges
abbrev pub AreOf : List (ℕ × PacketPart) → List Value → Type 0
AreOf [] [] = Unit {0}
AreOf ((at, Fixed text) ∷ parts) vs = AreOf parts vs
AreOf ((at, Byte) ∷ parts) (Number n ∷ vs) = (n < 256) × AreOf parts vs
AreOf ((at, SignedByte) ∷ parts) (Signed z ∷ vs) = FitsSigned w8 z × AreOf parts vs
AreOf ((at, Word) ∷ parts) (Number n ∷ vs) = (n < 65536) × AreOf parts vs
AreOf ((at, SignedWord) ∷ parts) (Signed z ∷ vs) = FitsSigned w16 z × AreOf parts vs
AreOf ((at, Bytes count) ∷ parts) (Many bytes ∷ vs) = (length bytes ≡ count) × AreOf parts vs
AreOf parts vs = ⊥

-- numbers that were spelled are read again, whatever stands behind them
byte_read : (n : ℕ) (rest : List ℕ) → byte_in (n ∷ rest) ≡ n
unfolding byte_in
byte_read n rest = refl

byte_bits : (z : ℤ) → FitsSigned w8 z → cast_unsigned w8 z < 256
byte_bits (pos n) fits = let small : n < 128 = fits.sfits in omega arith
byte_bits (negsuc n) fits = omega arith

pub word_bits : (z : ℤ) → FitsSigned w16 z → cast_unsigned w16 z < 65536
word_bits (pos n) fits = let small : n < 32768 = fits.sfits in omega arith
word_bits (negsuc n) fits = omega arith

signed_byte_read : (z : ℤ) (rest : List ℕ) → FitsSigned w8 z → signed_byte_in (signed_byte_of z ++ rest) ≡ z
unfolding signed_byte_in signed_byte_of
signed_byte_read z rest fits =
    let small : cast_unsigned w8 z < 256 = byte_bits z fits in
    let low : cast_unsigned w8 z % 256 ≡ cast_unsigned w8 z = omega arith in
    ap (cast_signed w8) low ∙ to_z-of_z w8 z fits

pub two_read : (n : ℕ) → n < 65536 → n % 256 + n / 256 % 256 * 256 ≡ n
two_read n small = omega arith

word_read : (n : ℕ) (rest : List ℕ) → n < 65536 → word_in (word_of n ++ rest) ≡ n
unfolding word_in word_of
word_read n rest small = two_read n small

signed_word_read : (z : ℤ) (rest : List ℕ) → FitsSigned w16 z → signed_word_in (signed_word_of z ++ rest) ≡ z
unfolding signed_word_in signed_word_of
signed_word_read z rest fits =
    let small : cast_unsigned w16 z < 65536 = word_bits z fits in
    ap (cast_signed w16) (two_read (cast_unsigned w16 z) small) ∙ to_z-of_z w16 z fits

-- what stands behind a front and one cell more
behind_cell : (front cell rest : List ℕ) (place : ℕ) → length front ≡ place → drop place (front ++ (cell ++ rest)) ≡ cell ++ rest
behind_cell front cell rest place long = ap (λ (n : ℕ). drop n (front ++ (cell ++ rest))) (sym long) ∙ drop-append_seam front (cell ++ rest)

-- the front grows by the cell
longer : (front cell : List ℕ) (place w : ℕ) → length front ≡ place → length cell ≡ w → length (front ++ cell) ≡ place + w
longer front cell place w long wide = length-append front cell ∙ omega arith

-- a place behind the front and one cell
at_front : (front cell rest : List ℕ) (at place : ℕ) → length front ≡ place → place ≡ at → drop at (front ++ (cell ++ rest)) ≡ cell ++ rest
at_front front cell rest at place long here = behind_cell front cell rest at (long ∙ here)

-- the cells behind the first one
regrouped : (front cell others rest : List ℕ) → front ++ ((cell ++ others) ++ rest) ≡ (front ++ cell) ++ (others ++ rest)
regrouped front cell others rest = simp append_assoc

-- one value, and those behind it
value_and_more : (read : List ℕ → Value) (v : Value) (parts : List (ℕ × PacketPart)) (vs : List Value) (front cell others rest : List ℕ) (at place : ℕ) → length front ≡ place → place ≡ at →
    read (cell ++ (others ++ rest)) ≡ v → values_of_parts parts ((front ++ cell) ++ (others ++ rest)) ≡ vs →
    read (drop at (front ++ ((cell ++ others) ++ rest))) ∷ values_of_parts parts (front ++ ((cell ++ others) ++ rest)) ≡ v ∷ vs
value_and_more read v parts vs front cell others rest at place long here first more =
    let bytes : List ℕ = front ++ ((cell ++ others) ++ rest) in
    let same : bytes ≡ front ++ (cell ++ (others ++ rest)) = simp append_assoc in
    let value : read (drop at bytes) ≡ v = ap (λ (xs : List ℕ). read (drop at xs)) same ∙ ap read (at_front front cell (others ++ rest) at place long here) ∙ first in
    let values : values_of_parts parts bytes ≡ vs = ap (values_of_parts parts) (regrouped front cell others rest) ∙ more in
    ap (λ (x : Value). x ∷ values_of_parts parts bytes) value ∙ ap (λ (xs : List Value). v ∷ xs) values

-- what is spelled of values is read as these values
pub values_again : (parts : List (ℕ × PacketPart)) (vs : List Value) (front rest : List ℕ) (place : ℕ) → length front ≡ place → is_in_order place parts ≡ true → AreOf parts vs →
    values_of_parts parts (front ++ (spelled_parts parts vs ++ rest)) ≡ vs
values_again [] [] front rest place long order are = refl
values_again ((at, Fixed text) ∷ parts) vs front rest place long order are =
    let both = and_parts (nat_eq at place) (is_in_order (place + length text) parts) order in
    ap (values_of_parts parts) (regrouped front text (spelled_parts parts vs) rest)
    ∙ values_again parts vs (front ++ text) rest (place + length text) (longer front text place (length text) long refl) both.1 are
values_again ((at, Byte) ∷ parts) (Number n ∷ vs) front rest place long order are =
    let both = and_parts (nat_eq at place) (is_in_order (place + 1) parts) order in
    value_and_more (λ xs. Number (byte_in xs)) (Number n) parts vs front (n ∷ []) (spelled_parts parts vs) rest at place long (sym (eqb-true at place both.0))
    (ap Number (byte_read n (spelled_parts parts vs ++ rest)))
    (values_again parts vs (front ++ n ∷ []) rest (place + 1) (longer front (n ∷ []) place 1 long refl) both.1 are.1)
values_again ((at, SignedByte) ∷ parts) (Signed z ∷ vs) front rest place long order are =
    let both = and_parts (nat_eq at place) (is_in_order (place + 1) parts) order in
    value_and_more (λ xs. Signed (signed_byte_in xs)) (Signed z) parts vs front (signed_byte_of z) (spelled_parts parts vs) rest at place long (sym (eqb-true at place both.0))
    (ap Signed (signed_byte_read z (spelled_parts parts vs ++ rest) are.0))
    (values_again parts vs (front ++ signed_byte_of z) rest (place + 1) (longer front (signed_byte_of z) place 1 long (one_byte z)) both.1 are.1)
values_again ((at, Word) ∷ parts) (Number n ∷ vs) front rest place long order are =
    let both = and_parts (nat_eq at place) (is_in_order (place + 2) parts) order in
    value_and_more (λ xs. Number (word_in xs)) (Number n) parts vs front (word_of n) (spelled_parts parts vs) rest at place long (sym (eqb-true at place both.0))
    (ap Number (word_read n (spelled_parts parts vs ++ rest) are.0))
    (values_again parts vs (front ++ word_of n) rest (place + 2) (longer front (word_of n) place 2 long (two_bytes n)) both.1 are.1)
values_again ((at, SignedWord) ∷ parts) (Signed z ∷ vs) front rest place long order are =
    let both = and_parts (nat_eq at place) (is_in_order (place + 2) parts) order in
    value_and_more (λ xs. Signed (signed_word_in xs)) (Signed z) parts vs front (signed_word_of z) (spelled_parts parts vs) rest at place long (sym (eqb-true at place both.0))
    (ap Signed (signed_word_read z (spelled_parts parts vs ++ rest) are.0))
    (values_again parts vs (front ++ signed_word_of z) rest (place + 2) (longer front (signed_word_of z) place 2 long (two_signed_bytes z)) both.1 are.1)
values_again ((at, Bytes count) ∷ parts) (Many bytes ∷ vs) front rest place long order are =
    let both = and_parts (nat_eq at place) (is_in_order (place + count) parts) order in
    value_and_more (λ xs. Many (take count xs)) (Many bytes) parts vs front bytes (spelled_parts parts vs) rest at place long (sym (eqb-true at place both.0))
    (ap Many (front_of count bytes (spelled_parts parts vs ++ rest) are.0))
    (values_again parts vs (front ++ bytes) rest (place + count) (longer front bytes place count long are.0) both.1 are.1)
values_again parts vs front rest place long order are = absurd are

-- the fixed bytes stand where they are spelled
pub fixed_again : (parts : List (ℕ × PacketPart)) (vs : List Value) (front rest : List ℕ) (place : ℕ) → length front ≡ place → is_in_order place parts ≡ true → AreOf parts vs →
    HasFixed parts (front ++ (spelled_parts parts vs ++ rest))
fixed_again [] [] front rest place long order are = tt
fixed_again ((at, Fixed text) ∷ parts) vs front rest place long order are =
    let both = and_parts (nat_eq at place) (is_in_order (place + length text) parts) order in
    let others : List ℕ = spelled_parts parts vs in
    let P : List ℕ → Type 0 = λ xs. HasFixed parts xs in
    let same : front ++ ((text ++ others) ++ rest) ≡ front ++ (text ++ (others ++ rest)) = simp append_assoc in (
      ap (λ (xs : List ℕ). take (length text) (drop at xs)) same
          ∙ ap (take (length text)) (at_front front text (others ++ rest) at place long (sym (eqb-true at place both.0)))
          ∙ front_of (length text) text (others ++ rest) refl,
      subst P (sym (regrouped front text others rest)) (fixed_again parts vs (front ++ text) rest (place + length text) (longer front text place (length text) long refl) both.1 are),
    )
fixed_again ((at, Byte) ∷ parts) (Number n ∷ vs) front rest place long order are =
    let both = and_parts (nat_eq at place) (is_in_order (place + 1) parts) order in
    let P : List ℕ → Type 0 = λ xs. HasFixed parts xs in
    subst P (sym (regrouped front (n ∷ []) (spelled_parts parts vs) rest)) (fixed_again parts vs (front ++ (n ∷ [])) rest (place + 1) (longer front (n ∷ []) place 1 long refl) both.1 are.1)
fixed_again ((at, SignedByte) ∷ parts) (Signed z ∷ vs) front rest place long order are =
    let both = and_parts (nat_eq at place) (is_in_order (place + 1) parts) order in
    let P : List ℕ → Type 0 = λ xs. HasFixed parts xs in
    subst P (sym (regrouped front (signed_byte_of z) (spelled_parts parts vs) rest)) (fixed_again parts vs (front ++ (signed_byte_of z)) rest (place + 1) (longer front (signed_byte_of z) place 1 long (one_byte z)) both.1 are.1)
fixed_again ((at, Word) ∷ parts) (Number n ∷ vs) front rest place long order are =
    let both = and_parts (nat_eq at place) (is_in_order (place + 2) parts) order in
    let P : List ℕ → Type 0 = λ xs. HasFixed parts xs in
    subst P (sym (regrouped front (word_of n) (spelled_parts parts vs) rest)) (fixed_again parts vs (front ++ (word_of n)) rest (place + 2) (longer front (word_of n) place 2 long (two_bytes n)) both.1 are.1)
fixed_again ((at, SignedWord) ∷ parts) (Signed z ∷ vs) front rest place long order are =
    let both = and_parts (nat_eq at place) (is_in_order (place + 2) parts) order in
    let P : List ℕ → Type 0 = λ xs. HasFixed parts xs in
    subst P (sym (regrouped front (signed_word_of z) (spelled_parts parts vs) rest)) (fixed_again parts vs (front ++ (signed_word_of z)) rest (place + 2) (longer front (signed_word_of z) place 2 long (two_signed_bytes z)) both.1 are.1)
fixed_again ((at, Bytes count) ∷ parts) (Many bytes ∷ vs) front rest place long order are =
    let both = and_parts (nat_eq at place) (is_in_order (place + count) parts) order in
    let P : List ℕ → Type 0 = λ xs. HasFixed parts xs in
    subst P (sym (regrouped front bytes (spelled_parts parts vs) rest)) (fixed_again parts vs (front ++ bytes) rest (place + count) (longer front bytes place count long are.0) both.1 are.1)
fixed_again parts vs front rest place long order are = absurd are
