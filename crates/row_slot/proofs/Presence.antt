-- The presence bits of fields.
use Rattle.std.proofs.Common.{◌≡◌, ℕ, ℤ, zero, suc, ◌+◌, ◌*◌, ◌%◌, ◌^◌, ◌<◌, ◌≤◌, List, [], ◌∷◌, length, take, get_or, Option, Some, None, ap, subst, ◌∙◌, arith}
use Rattle.std.specs.Prelude.{bit_or, Bool, is_some}
use Rattle.std.specs.Int.{from_bool as bool_byte}
use Rattle.std.proofs.Math.Nat.{pow-suc, pow-le-pow_right, mul-le-mul_right, mod-eq_of_lt}
use Rattle.std.proofs.lemmas.List.{length-take-le}
use Rattle.std.proofs.lemmas.Nat.{or_comm, or_shifted}
use Rattle.row_slot.specs.Values.{bit_of, presence_of}
use Rattle.station_base.specs.Fields.{field_count}

bit_small : (value : Option ℤ) → bit_of value ≤ 1
bit_small None = omega arith
bit_small (Some value) = omega arith

-- there are as many bits as fields
pub presence_below : (values : List (Option ℤ)) → presence_of values < 2 ^ length values
presence_below [] = omega arith
presence_below (value ∷ values) =
    let bit = bit_small value in
    let rest = presence_below values in
    rw (pow-suc 2 (length values)) (omega arith)

-- the bit of one field more
more : (values : List (Option ℤ)) (i : ℕ) (d : Option ℤ) → i < length values →
    presence_of (take (suc i) values) ≡ presence_of (take i values) + bit_of (get_or values i d) * 2 ^ i
more [] i d within = absurd (omega arith)
more (value ∷ values) zero d within = omega arith
more (value ∷ values) (suc i) d within =
    let rest = more values i d (omega arith) in
    rw (pow-suc 2 i) (omega (arith, rest))

shifted : (bit i : ℕ) → bit ≤ 1 → i < field_count → bit * 2 ^ i % 2 ^ 64 ≡ bit * 2 ^ i
shifted bit i small few =
    let at_most : i ≤ field_count = omega arith in
    let pow : 2 ^ i ≤ 2 ^ field_count = pow-le-pow_right (omega arith) at_most in
    let product : bit * 2 ^ i ≤ 1 * 2 ^ i = mul-le-mul_right (2 ^ i) small in
    mod-eq_of_lt (omega arith)

-- the same as it is made: the bit of the field is set
pub presence_more : (values : List (Option ℤ)) (i bit presence : ℕ) (d : Option ℤ) → i < field_count → length values ≡ field_count → bit ≡ bit_of (get_or values i d) →
    presence ≡ presence_of (take i values) → bit_or presence (bit * 2 ^ i % 2 ^ 64) ≡ presence_of (take (i + 1) values)
presence_more values i bit presence d within long is so_far =
    let small : bit ≤ 1 = omega (arith, bit_small (get_or values i d)) in
    let below : presence < 2 ^ i = rw (so_far) (subst (λ (n : ℕ). presence_of (take i values) < 2 ^ n) (length-take-le i values (omega arith)) (presence_below (take i values))) in
    ap (bit_or presence) (shifted bit i small (omega arith)) ∙ or_comm presence (bit * 2 ^ i) ∙ or_shifted bit i presence below
    ∙ rw (is, so_far) (omega (arith, more values i d (omega arith)))
    ∙ ap (λ (n : ℕ). presence_of (take n values)) (let e : suc i ≡ i + 1 = omega arith in e)

-- a bit is 1 where there is a value
pub bit_is : (value : Option ℤ) (some : Bool) → some ≡ is_some value → bool_byte some ≡ bit_of value
bit_is None some is = ap bool_byte is
bit_is (Some value) some is = ap bool_byte is
