-- A good frame is a message with its check behind it.
use Rattle.std.proofs.Common.{◌≡◌, ℕ, ◌+◌, ◌-◌, ◌*◌, ◌/◌, ◌%◌, ◌^◌, ◌<◌, ◌≤◌, List, [], ◌∷◌, ◌++◌, length, take, drop, get_or, refl, sym, ap, ◌∙◌, arith, fold, bit_xor, length-drop}
use Rattle.std.proofs.lemmas.List.{take-append-drop, get_or-drop}
use Rattle.std.proofs.lemmas.List.Sums.{fold-append}
use Rattle.std.proofs.lemmas.Nat.{xor_comm, xor_lt, xor_mod}
use lib.Bits.{xor_zero_r}
use Rattle.crc_ccitt.specs.Check.{check, check_bytes, sealed, bits, divided}
use Rattle.crc_ccitt.specs.Tables.{table_entry}
use Rattle.crc_ccitt.proofs.Division.{fold-divided_lt}
use Rattle.crc_ccitt.proofs.Entries.{alone, byte_by_register, fold-divided-same}
use Rattle.crc_ccitt.proofs.Unique.{same_from_xor}
use Rattle.crc_ccitt.proofs.Sealed.{check_lt, check-append, two_bytes}

-- what a register was that one byte more leaves with no low byte
step_back : (rest byte low : ℕ) → rest < 2 ^ 16 → byte < 256 → fold divided rest (bits 8 byte) ≡ low * 256 → rest ≡ byte * 256 + low
step_back rest byte low small byte_small left =
    let high_small : rest / 256 < 256 = omega arith in
    let low_small : rest % 256 < 256 = omega arith in
    let mixed : ℕ = bit_xor (rest / 256) byte in
    let mixed_small : mixed < 256 = xor_lt 8 (rest / 256) byte high_small byte_small in
    let whole : bit_xor (rest % 256 * 256) (table_entry 0 mixed) ≡ low * 256 = sym (byte_by_register rest byte small byte_small) ∙ left in
    let lows : bit_xor (rest % 256 * 256 % 256) (table_entry 0 mixed % 256) ≡ low * 256 % 256 =
    sym (xor_mod (rest % 256 * 256) (table_entry 0 mixed) 8) ∙ ap (λ (n : ℕ). n % 256) whole in
    let no_left : rest % 256 * 256 % 256 ≡ 0 = omega arith in
    let no_right : low * 256 % 256 ≡ 0 = omega arith in
    let none : bit_xor 0 (table_entry 0 mixed % 256) ≡ 0 = ap (λ (n : ℕ). bit_xor n (table_entry 0 mixed % 256)) (sym no_left) ∙ lows ∙ no_right in
    let no_entry : table_entry 0 mixed % 256 ≡ 0 = sym (xor_zero_r (table_entry 0 mixed % 256)) ∙ xor_comm (table_entry 0 mixed % 256) 0 ∙ none in
    let same : rest / 256 ≡ byte = same_from_xor (rest / 256) byte (alone mixed mixed_small no_entry) in
    let parts : rest ≡ byte * 256 + rest % 256 = omega arith in
    let again : rest % 256 * 256 ≡ low * 256 =
    sym (fold-divided-same byte (rest % 256) byte_small low_small) ∙ ap (λ (r : ℕ). fold divided r (bits 8 byte)) (sym parts) ∙ left in
    omega arith

-- the last two bytes of a good frame are the check of those before
check_of_good : (message : List ℕ) (a b : ℕ) → a < 256 → b < 256 → check (message ++ a ∷ b ∷ []) ≡ 0 → a ∷ b ∷ [] ≡ check_bytes message
check_of_good message a b a_small b_small good =
    let rest : ℕ = check message in
    let small : rest < 2 ^ 16 = check_lt message in
    let after : ℕ = fold divided rest (bits 8 a) in
    let after_small : after < 2 ^ 16 = fold-divided_lt (bits 8 a) rest small in
    let divides : fold divided rest (bits 8 a ++ (bits 8 b ++ [])) ≡ 0 = sym (check-append message (a ∷ b ∷ [])) ∙ good in
    let last : fold divided after (bits 8 b) ≡ 0 * 256 = sym (fold-append divided rest (bits 8 a) (bits 8 b ++ [])) ∙ divides in
    let before : after ≡ b * 256 + 0 = step_back after b 0 after_small b_small last in
    let left : after ≡ b * 256 = omega arith in
    let first : rest ≡ a * 256 + b = step_back rest a b small a_small left in
    let high : a ≡ rest / 256 = omega arith in
    let low : b ≡ rest % 256 = omega arith in
    ap (λ (n : ℕ). n ∷ b ∷ []) high ∙ ap (λ (n : ℕ). rest / 256 ∷ n ∷ []) low ∙ sym (two_bytes rest small)

two_of : (xs : List ℕ) → length xs ≡ 2 → xs ≡ get_or xs 0 0 ∷ get_or xs 1 0 ∷ []
two_of (a ∷ b ∷ []) l = refl
two_of _ l = absurd (omega arith)

-- a good frame is its message, sealed
pub sealed_of_good : (frame : List ℕ) → ((i : ℕ) → get_or frame i 0 < 256) → 2 ≤ length frame → check frame ≡ 0 → frame ≡ sealed (take (length frame - 2) frame)
sealed_of_good frame fits long good =
    let n : ℕ = length frame - 2 in
    let message : List ℕ = take n frame in
    let end : List ℕ = drop n frame in
    let short : length end ≡ 2 = length-drop n frame ∙ omega arith in
    let two : end ≡ get_or end 0 0 ∷ get_or end 1 0 ∷ [] = two_of end short in
    let parts : frame ≡ message ++ (get_or end 0 0 ∷ get_or end 1 0 ∷ []) = sym (take-append-drop n frame) ∙ ap (λ (ys : List ℕ). message ++ ys) two in
    let a_small : get_or end 0 0 < 256 = rw (get_or-drop n frame 0 0) (fits (n + 0)) in
    let b_small : get_or end 1 0 < 256 = rw (get_or-drop n frame 1 0) (fits (n + 1)) in
    let good_parts : check (message ++ (get_or end 0 0 ∷ get_or end 1 0 ∷ [])) ≡ 0 = ap check (sym parts) ∙ good in
    parts ∙ ap (λ (ys : List ℕ). message ++ ys) (check_of_good message (get_or end 0 0) (get_or end 1 0) a_small b_small good_parts)
