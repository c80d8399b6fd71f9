-- The bits of the fields that limits made missing.
use Rattle.std.proofs.Common.{◌≡◌, ℕ, zero, suc, ◌+◌, ◌*◌, ◌/◌, ◌%◌, ◌^◌, ◌<◌, ◌==◌, Bool, true, false, cond, List, [], ◌∷◌, refl, ap, ◌∙◌, arith}
use Rattle.std.proofs.Math.Nat.{pow-suc}
use Rattle.std.proofs.lemmas.Nat.{div-mul-add, mod-pow-add}
use Rattle.station_base.specs.FieldSet.{is_member}
use Rattle.row_text.specs.FieldsTold.{ToldOfField, is_told_limited, limits_told}

next : (field : ℕ) → field + 1 ≡ suc field
next field = omega arith

pub pow_next : (field : ℕ) → 2 ^ (field + 1) ≡ 2 ^ field * 2
pow_next field = ap (λ (n : ℕ). 2 ^ n) (next field) ∙ pow-suc 2 field

-- the bits from a number on are a multiple of its bit
pub limits_multiple : (field : ℕ) (tolds : List ToldOfField) → (m : ℕ) × (limits_told field tolds ≡ m * 2 ^ field)
limits_multiple field [] = (0, omega arith)
limits_multiple field (told ∷ tolds) =
    let (m, rest) = limits_multiple (field + 1) tolds in
    go (is_told_limited told) m rest
  where
    go : (limit : Bool) (m : ℕ) → limits_told (field + 1) tolds ≡ m * 2 ^ (field + 1)
        → (k : ℕ) × (cond limit (2 ^ field) 0 + limits_told (field + 1) tolds ≡ k * 2 ^ field)
    go true m rest =
        let twice : m * 2 ^ (field + 1) ≡ m * (2 ^ field * 2) = ap (λ (n : ℕ). m * n) (pow_next field) in
        (1 + m * 2, omega (arith, rest, twice))
    go false m rest =
        let twice : m * 2 ^ (field + 1) ≡ m * (2 ^ field * 2) = ap (λ (n : ℕ). m * n) (pow_next field) in
        (m * 2, omega (arith, rest, twice))

bit_value : Bool → ℕ
bit_value true = 1
bit_value false = 0

-- the bit of a field among others
pub member_told : (low field : ℕ) (limit : Bool) (tolds : List ToldOfField) → low < 2 ^ field → is_member (low + (cond limit (2 ^ field) 0 + limits_told (field + 1) tolds)) field ≡ limit
unfolding bit_value
member_told low field limit tolds small =
    let (m, rest) = limits_multiple (field + 1) tolds in
    let twice : m * 2 ^ (field + 1) ≡ m * (2 ^ field * 2) = ap (λ (n : ℕ). m * n) (pow_next field) in
    let quotient : (low + (cond limit (2 ^ field) 0 + limits_told (field + 1) tolds)) / 2 ^ field ≡ bit_value limit + m * 2 =
    ap (λ (n : ℕ). n / 2 ^ field) (sum limit m rest twice) ∙ div-mul-add (bit_value limit + m * 2) (2 ^ field) low small in
    ap (λ (n : ℕ). n % 2 == 1) quotient ∙ parity limit m
  where
    sum : (b : Bool) (m : ℕ) → limits_told (field + 1) tolds ≡ m * 2 ^ (field + 1) → m * 2 ^ (field + 1) ≡ m * (2 ^ field * 2)
        → low + (cond b (2 ^ field) 0 + limits_told (field + 1) tolds) ≡ (bit_value b + m * 2) * 2 ^ field + low
    sum true m rest twice = omega (arith, rest, twice)
    sum false m rest twice = omega (arith, rest, twice)

    odd : (m : ℕ) → (1 + m * 2) % 2 ≡ 1
    odd m = omega arith

    even : (m : ℕ) → (0 + m * 2) % 2 ≡ 0
    even m = omega arith

    parity : (b : Bool) (m : ℕ) → ((bit_value b + m * 2) % 2 == 1) ≡ b
    parity true m = rw (odd m) refl
    parity false m = rw (even m) refl

-- one bit more of a number
pub mod_next : (bits field : ℕ) → bits % 2 ^ (field + 1) ≡ cond (is_member bits field) (2 ^ field) 0 + bits % 2 ^ field
mod_next bits field =
    let order : field + 1 ≡ 1 + field = omega arith in
    ap (λ (n : ℕ). bits % 2 ^ n) order
    ∙ mod-pow-add bits 1 field
    ∙ ap (λ (n : ℕ). n + bits % 2 ^ field) (bit (bits / 2 ^ field % 2) (omega arith))
  where
    bit : (b : ℕ) → b < 2 → b * 2 ^ field ≡ cond (b == 1) (2 ^ field) 0
    bit zero small = omega arith
    bit (suc zero) small = omega arith
    bit (suc (suc b)) small = absurd (omega arith)
