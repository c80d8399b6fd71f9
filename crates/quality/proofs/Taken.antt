-- The fields of which values were taken, as bits.
use Rattle.std.proofs.Common.{◌≡◌, ◌≢◌, ℕ, ℤ, zero, suc, ◌+◌, ◌*◌, ◌/◌, ◌%◌, ◌^◌, ◌<◌, ◌≤◌, ◌==◌, ◌&&◌, Bool, true, false, if◌then◌else◌, List, [], ◌∷◌, length, Option, refl, sym, ap, ◌∙◌, arith}
use Rattle.std.specs.Prelude.{nat_lt, not}
use Rattle.std.proofs.lemmas.Bool.Decides.{nat_tests}
use Rattle.std.proofs.lemmas.Nat.Bits.{bit_at-zero}
use Rattle.std.proofs.lemmas.Grind.{pow_more}
use native.Mathlib.Nat as nat
use Rattle.station_base.specs.FieldSet.{is_member, has_value, AreMissing}
use Rattle.station_base.proofs.FieldSets.{missing_where}
use Rattle.quality.specs.Corrected.{is_taken, taken, was_taken}
use Rattle.station_base.specs.Fields.{field_count}

lowest : (n : ℕ) → is_member n 0 ≡ (n % 2 == 1)
lowest n = let same : n / 2 ^ 0 % 2 ≡ n % 2 = omega arith in ap (λ (m : ℕ). m == 1) same

twice : (f : ℕ) → 2 ^ suc f ≡ 2 * 2 ^ f
twice f =
    let e : suc f ≡ f + 1 = omega arith in
    let more : 2 ^ (f + 1) ≡ 2 ^ f * 2 = pow_more 2 f in
    ap (λ (x : ℕ). 2 ^ x) e ∙ omega (arith, more)

higher : (n f : ℕ) → is_member (n / 2) f ≡ is_member n (suc f)
higher n f = ap (λ (m : ℕ). m % 2 == 1) (nat.div-div-eq-div-mul n 2 (2 ^ f) ∙ ap (λ (m : ℕ). n / m) (sym (twice f)))

with_lowest : (n m : ℕ) (b : Bool) → (n % 2 == 1) ≡ b → n / 2 ≡ m → n ≡ (if b then 1 else 0) + 2 * m
with_lowest n m true is half = let odd : n % 2 ≡ 1 = grind (arith, nat_tests) in omega arith
with_lowest n m false is half = let even : n % 2 ≢ 1 = grind (arith, nat_tests) in omega arith

-- a number whose bits are these fields is the number of them
pub taken_by_bits : (k n : ℕ) (before after : List (Option ℤ)) → length before ≡ k → length after ≡ k → n < 2 ^ k
    → ((field : ℕ) → field < k → is_member n field ≡ was_taken before after field) → n ≡ taken before after
taken_by_bits zero n [] after few few' small each = omega arith
taken_by_bits zero n (v ∷ before) after few few' small each = absurd (omega (arith, few))
taken_by_bits (suc k) n [] after few few' small each = absurd (omega (arith, few))
taken_by_bits (suc k) n (v ∷ before) [] few few' small each = absurd (omega (arith, few'))
taken_by_bits (suc k) n (v ∷ before) (w ∷ after) few few' small each =
    let half : n / 2 < 2 ^ k = omega (arith, twice k) in
    let rest = taken_by_bits k (n / 2) before after (omega (arith, few)) (omega (arith, few')) half (λ field below. higher n field ∙ each (suc field) (omega arith)) in
    with_lowest n (taken before after) (is_taken v w) (sym (lowest n) ∙ each 0 (omega arith)) rest

apart : (a b : Bool) → not ((a && not b) && b) ≡ true
apart true true = refl
apart true false = refl
apart false b = refl

-- they have no value
pub taken_missing : (n : ℕ) (before after : List (Option ℤ)) → n < 2 ^ field_count
    → ((field : ℕ) → field < field_count → is_member n field ≡ was_taken before after field) → AreMissing n after
taken_missing n before after small each = missing_where n after small (λ field few.
    ap (λ (b : Bool). not (b && has_value after field)) (each field few) ∙ apart (has_value before field) (has_value after field))

-- of the fields below a number just those are in the set
abbrev pub AreNamed : List (Option ℤ) → List (Option ℤ) → ℕ → ℕ → Type 0
AreNamed before after i set = (field : ℕ) → is_member set field ≡ (nat_lt field i && was_taken before after field)

none_below : (n : ℕ) → nat_lt n 0 ≡ false
none_below n = grind (arith, nat_tests)

self_below : (n : ℕ) → nat_lt n (n + 1) ≡ true
self_below n = grind (arith, nat_tests)

same_below : (n i : ℕ) → n ≢ i → nat_lt n i ≡ nat_lt n (i + 1)
same_below n i differs = grind (arith, nat_tests)

pub named_none : (before after : List (Option ℤ)) → AreNamed before after 0 0
named_none before after field =
    ap (λ (n : ℕ). n == 1) (bit_at-zero field) ∙ sym (ap (λ (b : Bool). b && was_taken before after field) (none_below field))

both : (a b : Bool) → a ≡ true → b ≡ true → (a && b) ≡ true
both a b x y = rw (x, y) refl

neither : (a b : Bool) → b ≡ false → (a && b) ≡ false
neither true b is = is
neither false b is = refl

-- and with the next one
pub named_more : (before after : List (Option ℤ)) (i set more : ℕ) → AreNamed before after i set
    → (was_taken before after i ≡ true → is_member more i ≡ true) → (was_taken before after i ≡ false → more ≡ set)
    → ((other : ℕ) → other ≢ i → is_member more other ≡ is_member set other) → AreNamed before after (i + 1) more
named_more before after i set more named added kept others field = by (field == i) refl
  where
    here : (b : Bool) → was_taken before after i ≡ b → is_member more i ≡ (nat_lt i (i + 1) && was_taken before after i)
    here true is = added is ∙ sym (both (nat_lt i (i + 1)) (was_taken before after i) (self_below i) is)
    here false is =
        ap (λ (s : ℕ). is_member s i) (kept is) ∙ named i ∙ neither (nat_lt i i) (was_taken before after i) is
        ∙ sym (neither (nat_lt i (i + 1)) (was_taken before after i) is)

    by : (b : Bool) → (field == i) ≡ b → is_member more field ≡ (nat_lt field (i + 1) && was_taken before after field)
    by true is =
        let same : i ≡ field = grind (arith, nat_tests) in
        rw (← same) (here (was_taken before after i) refl)
    by false is =
        let differs : field ≢ i = grind (arith, nat_tests) in
        others field differs ∙ named field ∙ ap (λ (b : Bool). b && was_taken before after field) (same_below field i differs)

-- in the end each field is told
pub named_all : (before after : List (Option ℤ)) (i set : ℕ) → AreNamed before after i set → field_count ≤ i
    → (field : ℕ) → field < field_count → is_member set field ≡ was_taken before after field
named_all before after i set named all field few =
    let below : nat_lt field i ≡ true = grind (arith, nat_tests) in
    named field ∙ ap (λ (b : Bool). b && was_taken before after field) below
