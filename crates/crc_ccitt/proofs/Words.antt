-- The division by words of 64 bits, whose lowest byte comes first, and how the first of five words is taken away: the
-- sixteenth power of the generator is x^256 + x^192 + x^80 + 1, and the generator divides it.
use Rattle.std.proofs.Common.{◌≡◌, ℕ, zero, suc, ◌+◌, ◌-◌, ◌*◌, ◌/◌, ◌%◌, ◌^◌, ◌<◌, true, List, [], ◌∷◌, ◌++◌, length, get_or, refl, sym, ap, ◌∙◌, arith, fold, nat_eq, bit_xor, inl, inr, lit<, add-zero}
use Rattle.std.proofs.lemmas.Bool.{cases_lt, eqb-true, and_parts}
use Rattle.std.proofs.lemmas.List.Sums.{fold-append}
use Rattle.std.proofs.lemmas.Nat.{xor_comm, xor_block, xor_shr, xor_mod}
use lib.Bits.{xor_zero_l, xor_zero_r, xor_shifted}
use Rattle.std.specs.Int.{w64, to_le_bytes}
use Rattle.crc_ccitt.specs.Check.{bits, divided, message_bits}
use Rattle.crc_ccitt.specs.Words.{after_word}
use Rattle.crc_ccitt.proofs.Division.{fold-divided_lt, fold-divided-sum}
use Rattle.crc_ccitt.proofs.Entries.{all_below}

-- the bytes are the next word
pub with_next : (words : List ℕ) (word : ℕ) (bytes : List ℕ) → to_le_bytes w64 word ≡ bytes →
    fold after_word 0 (words ++ word ∷ []) ≡ fold divided (fold after_word 0 words) (message_bits bytes)
unfolding after_word
with_next words word bytes same =
    fold-append after_word 0 words (word ∷ [])
    ∙ ap (λ (ys : List ℕ). fold divided (fold after_word 0 words) (message_bits ys)) same

-- zeros in front of a message leave nothing
pub zeros : fold after_word 0 (0 ∷ 0 ∷ 0 ∷ 0 ∷ []) ≡ 0
unfolding after_word
zeros = refl

after_word_lt : (rest word : ℕ) → rest < 2 ^ 16 → after_word rest word < 2 ^ 16
unfolding after_word
after_word_lt rest word small = fold-divided_lt (message_bits (to_le_bytes w64 word)) rest small

-- the sums of numbers at the same places
abbrev sums : List ℕ → List ℕ → List ℕ
sums [] vs = []
sums (w ∷ ws) [] = []
sums (w ∷ ws) (v ∷ vs) = bit_xor w v ∷ sums ws vs

-- the division by sums of bytes is the sum of the divisions
bytes-sum : (ws vs : List ℕ) (r s : ℕ) → length ws ≡ length vs → r < 2 ^ 16 → s < 2 ^ 16 →
    fold divided (bit_xor r s) (message_bits (sums ws vs)) ≡ bit_xor (fold divided r (message_bits ws)) (fold divided s (message_bits vs))
bytes-sum [] [] r s same r_small s_small = refl
bytes-sum [] (v ∷ vs) r s same r_small s_small = absurd (omega arith)
bytes-sum (w ∷ ws) [] r s same r_small s_small = absurd (omega arith)
bytes-sum (w ∷ ws) (v ∷ vs) r s same r_small s_small =
    let shorter : length ws ≡ length vs = omega arith in
    fold-append divided (bit_xor r s) (bits 8 (bit_xor w v)) (message_bits (sums ws vs))
    ∙ ap (λ (n : ℕ). fold divided n (message_bits (sums ws vs))) (fold-divided-sum 8 r s w v r_small s_small)
    ∙ bytes-sum ws vs (fold divided r (bits 8 w)) (fold divided s (bits 8 v)) shorter (fold-divided_lt (bits 8 w) r r_small) (fold-divided_lt (bits 8 v) s s_small)
    ∙ sym (rw (fold-append divided r (bits 8 w) (message_bits ws), fold-append divided s (bits 8 v) (message_bits vs)) refl)

-- a byte of a sum
byte-sum : (w v k : ℕ) → bit_xor w v / 2 ^ k % 256 ≡ bit_xor (w / 2 ^ k % 256) (v / 2 ^ k % 256)
byte-sum w v k = ap (λ (n : ℕ). n % 256) (xor_shr w v k) ∙ xor_mod (w / 2 ^ k) (v / 2 ^ k) 8

-- the bytes of a sum are the sums of the bytes
le_bytes-sum : (w v : ℕ) → to_le_bytes w64 (bit_xor w v) ≡ sums (to_le_bytes w64 w) (to_le_bytes w64 v)
le_bytes-sum w v =
    rw (
      xor_mod w v 8,
      byte-sum w v 8,
      byte-sum w v 16,
      byte-sum w v 24,
      byte-sum w v 32,
      byte-sum w v 40,
      byte-sum w v 48,
      byte-sum w v 56,
    )
    refl

after_word-xor : (r s w v : ℕ) → r < 2 ^ 16 → s < 2 ^ 16 → after_word (bit_xor r s) (bit_xor w v) ≡ bit_xor (after_word r w) (after_word s v)
unfolding after_word
after_word-xor r s w v r_small s_small =
    ap (λ (bytes : List ℕ). fold divided (bit_xor r s) (message_bits bytes)) (le_bytes-sum w v)
    ∙ bytes-sum (to_le_bytes w64 w) (to_le_bytes w64 v) r s refl r_small s_small

-- the division of sums is the sum of the divisions
fold-sums : (ws vs : List ℕ) (r s : ℕ) → length ws ≡ length vs → r < 2 ^ 16 → s < 2 ^ 16 →
    fold after_word (bit_xor r s) (sums ws vs) ≡ bit_xor (fold after_word r ws) (fold after_word s vs)
fold-sums [] [] r s same r_small s_small = refl
fold-sums [] (v ∷ vs) r s same r_small s_small = absurd (omega arith)
fold-sums (w ∷ ws) [] r s same r_small s_small = absurd (omega arith)
fold-sums (w ∷ ws) (v ∷ vs) r s same r_small s_small =
    let shorter : length ws ≡ length vs = omega arith in
    ap (λ (n : ℕ). fold after_word n (sums ws vs)) (after_word-xor r s w v r_small s_small)
    ∙ fold-sums ws vs (after_word r w) (after_word s v) shorter (after_word_lt r w r_small) (after_word_lt s v s_small)

abbrev IsLinear : (ℕ → ℕ) → Type 0
IsLinear f = (a b : ℕ) → f (bit_xor a b) ≡ bit_xor (f a) (f b)

-- linear functions that agree at each power of two agree
agree : (n : ℕ) (f g : ℕ → ℕ) → IsLinear f → IsLinear g → f 0 ≡ g 0 → all_below n (λ j. nat_eq (f (2 ^ j)) (g (2 ^ j))) ≡ true →
    (a : ℕ) → a < 2 ^ n → f a ≡ g a
unfolding all_below
agree zero f g f_linear g_linear none all a small = let e : a ≡ 0 = omega arith in rw e none
agree (suc n) f g f_linear g_linear none all a small =
    let both : (nat_eq (f (2 ^ n)) (g (2 ^ n)) ≡ true) × (all_below n (λ j. nat_eq (f (2 ^ j)) (g (2 ^ j))) ≡ true) = and_parts _ _ all in
    elim (cases_lt a (2 ^ n)) [
      | inl low ↦ agree n f g f_linear g_linear none both.1 a low
      | inr high ↦
          let less : a - 2 ^ n < 2 ^ n = omega arith in
          let parts : a ≡ 1 * 2 ^ n + (a - 2 ^ n) = omega arith in
          let one : 1 * 2 ^ n ≡ 2 ^ n = omega arith in
          let sum : a ≡ bit_xor (2 ^ n) (a - 2 ^ n) = parts ∙ sym (xor_shifted 1 n (a - 2 ^ n) less) ∙ ap (λ (m : ℕ). bit_xor m (a - 2 ^ n)) one in
          ap f sum ∙ f_linear (2 ^ n) (a - 2 ^ n)
          ∙ ap (λ (m : ℕ). bit_xor m (f (a - 2 ^ n))) (eqb-true _ _ both.0)
          ∙ ap (λ (m : ℕ). bit_xor (g (2 ^ n)) m) (agree n f g f_linear g_linear none both.1 (a - 2 ^ n) less)
          ∙ sym (ap g sum ∙ g_linear (2 ^ n) (a - 2 ^ n))
    ]

-- what is left of a word that stands at x^256
far : ℕ → ℕ
far a = fold after_word 0 (a ∷ 0 ∷ 0 ∷ 0 ∷ 0 ∷ [])

-- what is left of a word that stands at x^192, x^80 and 1
moved : ℕ → ℕ
moved a = fold after_word 0 (a ∷ a * 2 ^ 48 % 2 ^ 64 ∷ a / 2 ^ 16 ∷ a ∷ [])

far_linear : IsLinear far
unfolding far
far_linear a b = fold-sums (a ∷ 0 ∷ 0 ∷ 0 ∷ 0 ∷ []) (b ∷ 0 ∷ 0 ∷ 0 ∷ 0 ∷ []) 0 0 refl (lit< tt) (lit< tt)

shl-xor : (a b : ℕ) → bit_xor a b * 2 ^ 48 % 2 ^ 64 ≡ bit_xor (a * 2 ^ 48 % 2 ^ 64) (b * 2 ^ 48 % 2 ^ 64)
shl-xor a b =
    ap (λ (n : ℕ). n % 2 ^ 64) (sym (simp add-zero at (xor_block 48 a b 0 0 (lit< tt) (lit< tt))))
    ∙ xor_mod (a * 2 ^ 48) (b * 2 ^ 48) 64

moved_linear : IsLinear moved
unfolding moved
moved_linear a b =
    ap (λ (n : ℕ). fold after_word 0 (bit_xor a b ∷ n ∷ bit_xor a b / 2 ^ 16 ∷ bit_xor a b ∷ [])) (shl-xor a b)
    ∙ ap (λ (n : ℕ). fold after_word 0 (bit_xor a b ∷ bit_xor (a * 2 ^ 48 % 2 ^ 64) (b * 2 ^ 48 % 2 ^ 64) ∷ n ∷ bit_xor a b ∷ [])) (xor_shr a b 16)
    ∙ fold-sums (a ∷ a * 2 ^ 48 % 2 ^ 64 ∷ a / 2 ^ 16 ∷ a ∷ []) (b ∷ b * 2 ^ 48 % 2 ^ 64 ∷ b / 2 ^ 16 ∷ b ∷ []) 0 0 refl (lit< tt) (lit< tt)

zero_moves : far 0 ≡ moved 0
unfolding far moved after_word
zero_moves = refl

-- each bit of a word, by computing it
each_moves : all_below 64 (λ j. nat_eq (far (2 ^ j)) (moved (2 ^ j))) ≡ true
unfolding all_below far moved after_word
each_moves = refl

-- a word may stand at x^192, x^80 and 1 in place of x^256
moves : (a : ℕ) → a < 2 ^ 64 → far a ≡ moved a
moves a small = agree 64 far moved far_linear moved_linear zero_moves each_moves a small

with_first : (a b c d w : ℕ) → fold after_word 0 (a ∷ b ∷ c ∷ d ∷ w ∷ []) ≡ bit_xor (far a) (fold after_word 0 (b ∷ c ∷ d ∷ w ∷ []))
unfolding far
with_first a b c d w =
    simp (xor_zero_l, xor_zero_r) at (fold-sums (0 ∷ 0 ∷ 0 ∷ 0 ∷ []) (b ∷ c ∷ d ∷ w ∷ []) (after_word 0 a) 0 refl (after_word_lt 0 a (lit< tt)) (lit< tt))

fold_first : (a b c d w : ℕ) → a < 2 ^ 64 →
    fold after_word 0 (bit_xor b a ∷ bit_xor c (a * 2 ^ 48 % 2 ^ 64) ∷ bit_xor d (a / 2 ^ 16) ∷ bit_xor w a ∷ []) ≡ fold after_word 0 (a ∷ b ∷ c ∷ d ∷ w ∷ [])
unfolding moved
fold_first a b c d w small =
    fold-sums (b ∷ c ∷ d ∷ w ∷ []) (a ∷ a * 2 ^ 48 % 2 ^ 64 ∷ a / 2 ^ 16 ∷ a ∷ []) 0 0 refl (lit< tt) (lit< tt)
    ∙ ap (λ (n : ℕ). bit_xor (fold after_word 0 (b ∷ c ∷ d ∷ w ∷ [])) n) (sym (moves a small))
    ∙ xor_comm (fold after_word 0 (b ∷ c ∷ d ∷ w ∷ [])) (far a)
    ∙ sym (with_first a b c d w)

-- the first of five words is taken away
pub without_first : (words : List ℕ) (next : ℕ) → length words ≡ 4 → get_or words 0 0 < 2 ^ 64 →
    fold after_word 0 (bit_xor (get_or words 1 0) (get_or words 0 0) ∷ bit_xor (get_or words 2 0) (get_or words 0 0 * 2 ^ 48 % 2 ^ 64) ∷ bit_xor (get_or words 3 0) (get_or words 0 0 / 2 ^ 16) ∷ bit_xor next (get_or words 0 0) ∷ [])
    ≡ fold after_word 0 (words ++ next ∷ [])
without_first (a ∷ b ∷ c ∷ d ∷ []) next length_is small = fold_first a b c d next small
without_first _ next length_is small = absurd (omega arith)
