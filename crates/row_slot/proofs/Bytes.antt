-- Numbers that are read of bytes and written again.
use Rattle.std.proofs.Common.{◌≡◌, ℕ, zero, suc, ◌+◌, ◌*◌, ◌/◌, ◌%◌, ◌^◌, ◌<◌, ◌≤◌, List, [], ◌∷◌, ◌++◌, length, take, drop, replicate, refl, sym, ap, ◌∙◌, arith, append_assoc, append-nil, length-append}
use Rattle.std.specs.Prelude.{ℤ, pos, negsuc, FitsSigned}
use Rattle.std.specs.Int.{w32, byte_at, bytes_low_first, cast_signed, cast_unsigned}
use Rattle.std.proofs.Math.Nat.{div-div-eq-div-mul, pow-succ'}
use Rattle.std.proofs.lemmas.Int.{of_z-to_z, to_z-of_z}
use Rattle.std.proofs.Math.Seq.{take-append_seam, drop-append_seam}
use Rattle.std.proofs.lemmas.List.{drop_all, length-drop, length-take-le}
use borrow.Rule.Slice.PartMut.{put_mid}
use Rattle.byteorder.specs.Endian.{little_from, little_bytes, little_number}
use Rattle.byteorder.specs.Numbers.{little_from-cons, little_from-lt, little_number-reads_back}
use Rattle.causes.specs.Lists.{AreBytes}
use Rattle.row_slot.specs.Slot.{row_size}
use Rattle.row_slot.specs.Values.{signed_number_in}

-- the bytes of a number from its second on are those of what is left of it above the first
byte_above : (j x : ℕ) → byte_at (suc j) x ≡ byte_at j (x / 256)
byte_above zero x = refl
byte_above (suc j) x =
    let pow : 256 ^ suc (suc j) ≡ 256 * 256 ^ suc j = pow-succ' 256 (suc j) in
    ap (λ (p : ℕ). x / p % 256) pow ∙ ap (λ (y : ℕ). y % 256) (sym (div-div-eq-div-mul x 256 (256 ^ suc j)))

bytes_above : (j k x : ℕ) → bytes_low_first (suc j) k x ≡ bytes_low_first j k (x / 256)
bytes_above j zero x = refl
bytes_above j (suc k) x =
    ap (λ (b : ℕ). b ∷ bytes_low_first (suc (suc j)) k x) (byte_above j x)
    ∙ ap (λ (bs : List ℕ). byte_at j (x / 256) ∷ bs) (bytes_above (suc j) k x)

-- the number of bytes is written as these bytes
pub bytes_again : (n : ℕ) (xs : List ℕ) → n ≤ length xs → AreBytes xs → little_bytes n (little_number n xs) ≡ take n xs
bytes_again zero xs long fits = refl
bytes_again (suc n) [] long fits = absurd (omega arith)
bytes_again (suc n) (x ∷ xs) long fits =
    let small : x < 256 = fits 0 in
    let above : ℕ = little_number n xs in
    let behind : little_from 1 n (x ∷ xs) ≡ above = little_from-cons 0 n x xs in
    let low : (x + 256 * above) % 256 ≡ x = omega arith in
    let high : (x + 256 * above) / 256 ≡ above = omega arith in
    let more : bytes_low_first 1 n (x + 256 * above) ≡ take n xs =
    bytes_above 0 n (x + 256 * above) ∙ ap (bytes_low_first 0 n) high ∙ bytes_again n xs (omega arith) (λ i. fits (suc i)) in
    ap (λ (m : ℕ). little_bytes (suc n) (x + 256 * m)) behind
    ∙ ap (λ (b : ℕ). b ∷ bytes_low_first 1 n (x + 256 * above)) low
    ∙ ap (λ (bs : List ℕ). x ∷ bs) more

-- and so is a signed number of four bytes
pub number_again : (xs : List ℕ) → 4 ≤ length xs → AreBytes xs → little_bytes 4 (cast_unsigned w32 (signed_number_in xs)) ≡ take 4 xs
number_again xs long fits =
    let small : little_number 4 xs < 2 ^ 32 = little_from-lt 0 4 xs fits in
    ap (little_bytes 4) (of_z-to_z w32 (little_number 4 xs) small) ∙ bytes_again 4 xs long fits

-- the bytes of a signed number are read as this number
unsigned_small : (z : ℤ) → FitsSigned w32 z → cast_unsigned w32 z < 256 ^ 4
unsigned_small (pos n) fits = let small : n < 2 ^ 31 = fits.sfits in omega arith
unsigned_small (negsuc n) fits = omega arith

pub number_read : (z : ℤ) (rest : List ℕ) → FitsSigned w32 z → signed_number_in (little_bytes 4 (cast_unsigned w32 z) ++ rest) ≡ z
number_read z rest fits =
    ap (cast_signed w32) (little_number-reads_back 4 (cast_unsigned w32 z) rest (unsigned_small z fits)) ∙ to_z-of_z w32 z fits

-- two parts that are copied over zeros, one behind the other
pub copied : (head numbers first second : List ℕ) → first ≡ head → second ≡ numbers → length head ≡ 20 → length numbers ≡ 148 →
    put_mid 20 148 (first ++ drop 20 (replicate row_size 0)) second ≡ head ++ (numbers ++ little_bytes 8 0)
copied head numbers first second first_is second_is head_long numbers_long =
    let zeros : List ℕ = drop 20 (replicate row_size 0) in
    let front : take 20 (head ++ zeros) ≡ head = ap (λ (n : ℕ). take n (head ++ zeros)) (sym head_long) ∙ take-append_seam head zeros in
    let behind : drop 20 (head ++ zeros) ≡ zeros = ap (λ (n : ℕ). drop n (head ++ zeros)) (sym head_long) ∙ drop-append_seam head zeros in
    ap (λ (xs : List ℕ). put_mid 20 148 (xs ++ zeros) second) first_is ∙ ap (put_mid 20 148 (head ++ zeros)) second_is
    ∙ ap (λ (xs : List ℕ). xs ++ (numbers ++ drop 148 (drop 20 (head ++ zeros)))) front ∙ ap (λ (xs : List ℕ). head ++ (numbers ++ drop 148 xs)) behind

-- and a number in the place of what stands behind them
pub ended : (head numbers rest last : List ℕ) → length head ≡ 20 → length numbers ≡ 148 → take 168 (head ++ (numbers ++ rest)) ++ last ≡ head ++ (numbers ++ last)
ended head numbers rest last head_long numbers_long =
    let front : List ℕ = head ++ numbers in
    let long : length front ≡ 168 = omega (arith, length-append head numbers) in
    let taken : take 168 (front ++ rest) ≡ front = ap (λ (n : ℕ). take n (front ++ rest)) (sym long) ∙ take-append_seam front rest in
    ap (λ (xs : List ℕ). take 168 xs ++ last) (sym (append_assoc head numbers rest)) ∙ ap (λ (xs : List ℕ). xs ++ last) taken ∙ append_assoc head numbers last

pub put_last : (n : ℕ) (slot last new : List ℕ) → length slot ≡ 168 + n → new ≡ last ++ drop n (take n (drop 168 slot)) → put_mid 168 n slot new ≡ take 168 slot ++ last
put_last n slot last new long is =
    let behind : List ℕ = drop 168 slot in
    let size : length behind ≡ n = omega (arith, length-drop 168 slot) in
    let short : length (take n behind) ≡ n = length-take-le n behind (omega arith) in
    let none : drop n (take n behind) ≡ [] = drop_all n (take n behind) (omega arith) in
    let rest : drop n behind ≡ [] = drop_all n behind (omega arith) in
    let new_is : new ≡ last = is ∙ ap (λ (xs : List ℕ). last ++ xs) none ∙ append-nil last in
    ap (λ (xs : List ℕ). take 168 slot ++ (xs ++ drop n behind)) new_is
    ∙ ap (λ (xs : List ℕ). take 168 slot ++ (last ++ xs)) rest
    ∙ ap (λ (xs : List ℕ). take 168 slot ++ xs) (append-nil last)
