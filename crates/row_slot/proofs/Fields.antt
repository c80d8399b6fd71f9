-- The values of fields, field by field.
use Rattle.std.proofs.Common.{◌≡◌, ℕ, ℤ, zero, suc, ◌+◌, ◌*◌, ◌/◌, ◌%◌, ◌^◌, ◌<◌, ◌==◌, Bool, true, false, List, [], ◌∷◌, length, drop, get_or, Option, Some, None, refl, sym, ap, ◌∙◌, arith, set, ◌≢◌, below_more, get_or-set_other, get_or-set_same}
use Rattle.std.specs.Bool.{then_some}
use Rattle.std.specs.Int.{w32, bit_at, cast_signed, cast_unsigned}
use Rattle.std.specs.Prelude.{IsSome, is_some}
use Rattle.std.proofs.Math.Nat.{pow-suc}
use Rattle.std.proofs.lemmas.Bool.{eqb-true, false≢true}
use Rattle.std.proofs.lemmas.Int.{to_z-of_z}
use Rattle.std.proofs.lemmas.List.{drop-drop}
use Rattle.std.specs.Prelude.{bit_and, FitsSigned}
use Rattle.std.proofs.lemmas.Nat.Bits.{bit_at_lowest, bit_at-suc, shr_and_one}
use Rattle.row_slot.specs.Values.{signed_number_in, is_allowed, before, slot_values_in}
use Rattle.row_slot.proofs.Inverse.{parts_of, end_of}

-- whether a field has a value, and its number
abbrev pub has_value : ℕ → ℕ → Bool
has_value presence field = bit_at presence field == 1

abbrev pub number_of : List ℕ → ℕ → ℤ
number_of bytes field = signed_number_in (drop (4 * field) bytes)

-- each of so many fields is allowed
abbrev pub AreAllowed : ℕ → ℕ → List ℕ → Type 0
AreAllowed count presence bytes =
    (field : ℕ) → field < count → is_allowed (has_value presence field) (number_of bytes field) ≡ true

-- the fields behind the first one are the fields of what stands behind it
next_bit : (presence field : ℕ) → has_value presence (suc field) ≡ has_value (presence / 2) field
next_bit presence field = ap (λ (n : ℕ). n == 1) (bit_at-suc presence field)

next_number : (bytes : List ℕ) (field : ℕ) → number_of bytes (suc field) ≡ number_of (drop 4 bytes) field
next_number bytes field =
    let place : 4 * suc field ≡ 4 + 4 * field = omega arith in
    ap (λ (n : ℕ). signed_number_in (drop n bytes)) place ∙ ap signed_number_in (sym (drop-drop (4 * field) 4 bytes))

first_bit : (presence : ℕ) → has_value presence 0 ≡ (presence % 2 == 1)
first_bit presence = ap (λ (n : ℕ). n == 1) (bit_at_lowest presence)

pub record AreFields (count presence : ℕ) (bytes : List ℕ) : Type 0 where
  pub below : presence < 2 ^ count
  pub allowed : AreAllowed count presence bytes

-- where values are read, each field is allowed, and no bit is left
pub fields_of : (count presence : ℕ) (bytes : List ℕ) (values : List (Option ℤ)) → slot_values_in count presence bytes ≡ Some values → AreFields count presence bytes
unfolding slot_values_in
fields_of zero presence bytes values is =
    let none : presence ≡ 0 = eqb-true presence 0 (end_of (presence == 0) values is).0 in
    record { below = omega (arith, none); allowed = λ field within. absurd (omega arith) }
fields_of (suc count) presence bytes values is =
    let parts = parts_of (is_allowed (presence % 2 == 1) (signed_number_in bytes)) (then_some (presence % 2 == 1) (signed_number_in bytes)) (slot_values_in count (presence / 2) (drop 4 bytes)) values is in
    let rest = fields_of count (presence / 2) (drop 4 bytes) parts.1.0 parts.1.1.0 in
    record { below = rw (pow-suc 2 count) (omega (arith, rest.below)); allowed = all_allowed count presence bytes parts.0 rest.allowed }
  where
    all_allowed : (count presence : ℕ) (bytes : List ℕ) → is_allowed (presence % 2 == 1) (signed_number_in bytes) ≡ true → AreAllowed count (presence / 2) (drop 4 bytes) → AreAllowed (suc count) presence bytes
    all_allowed count presence bytes first rest zero within = ap (λ (b : Bool). is_allowed b (signed_number_in bytes)) (first_bit presence) ∙ first
    all_allowed count presence bytes first rest (suc field) within =
        ap (λ (b : Bool). is_allowed b (number_of bytes (suc field))) (next_bit presence field)
        ∙ ap (is_allowed (has_value (presence / 2) field)) (next_number bytes field) ∙ rest field (omega arith)

-- where values are read, a field has one exactly where its bit is 1
pub some_at : (count presence : ℕ) (bytes : List ℕ) (values : List (Option ℤ)) → slot_values_in count presence bytes ≡ Some values → (field : ℕ) → field < count →
    is_some (get_or values field None) ≡ has_value presence field
unfolding slot_values_in
some_at zero presence bytes values is field within = absurd (omega arith)
some_at (suc count) presence bytes values is field within =
    let parts = parts_of (is_allowed (presence % 2 == 1) (signed_number_in bytes)) (then_some (presence % 2 == 1) (signed_number_in bytes)) (slot_values_in count (presence / 2) (drop 4 bytes)) values is in
    ap (λ (vs : List (Option ℤ)). is_some (get_or vs field None)) parts.1.1.1
    ∙ at (presence % 2 == 1) (signed_number_in bytes) parts.1.0 field within (sym (first_bit presence)) (λ i small. some_at count (presence / 2) (drop 4 bytes) parts.1.0 parts.1.1.0 i small)
  where
    some_of : (b : Bool) (number : ℤ) → is_some (then_some b number) ≡ b
    some_of true number = refl
    some_of false number = refl

    at : (b : Bool) (number : ℤ) (rest : List (Option ℤ)) (field : ℕ) → field < suc count → b ≡ has_value presence 0 →
        ((i : ℕ) → i < count → is_some (get_or rest i None) ≡ has_value (presence / 2) i) → is_some (get_or (then_some b number ∷ rest) field None) ≡ has_value presence field
    at b number rest zero within is_first others = some_of b number ∙ is_first
    at b number rest (suc i) within is_first others = others i (omega arith) ∙ sym (next_bit presence i)

-- each field has the value that its bit and its number tell
abbrev pub Tells : ℕ → ℕ → List ℕ → List (Option ℤ) → Type 0
Tells count presence bytes values =
    (field : ℕ) → field < count → get_or values field None ≡ then_some (has_value presence field) (number_of bytes field)

first_allowed : (count presence : ℕ) (bytes : List ℕ) → AreFields (suc count) presence bytes → is_allowed (presence % 2 == 1) (signed_number_in bytes) ≡ true
first_allowed count presence bytes are = ap (λ (b : Bool). is_allowed b (signed_number_in bytes)) (sym (first_bit presence)) ∙ are.allowed 0 (omega arith)

rest_fields : (count presence : ℕ) (bytes : List ℕ) → AreFields (suc count) presence bytes → AreFields count (presence / 2) (drop 4 bytes)
rest_fields count presence bytes are =
    let below = rw (pow-suc 2 count) at are.below in
    record {
      below = omega arith;
      allowed = λ field within. ap (λ (b : Bool). is_allowed b (number_of (drop 4 bytes) field)) (sym (next_bit presence field))
          ∙ ap (is_allowed (has_value presence (suc field))) (sym (next_number bytes field)) ∙ are.allowed (suc field) (omega arith);
    }

some_before : (value : Option ℤ) (others : Option (List (Option ℤ))) → IsSome others → IsSome (before true value others)
some_before value None some = absurd (false≢true some)
some_before value (Some values) some = refl

-- and where each field is allowed and no bit is left, the values are read
pub fields_read : (count presence : ℕ) (bytes : List ℕ) (values : List (Option ℤ)) → length values ≡ count → AreFields count presence bytes →
    Tells count presence bytes values → slot_values_in count presence bytes ≡ Some values
unfolding slot_values_in
fields_read zero presence bytes [] long are tells = let none : presence ≡ 0 = omega (arith, are.below) in rw none refl
fields_read zero presence bytes (value ∷ values) long are tells = absurd (omega arith)
fields_read (suc count) presence bytes [] long are tells = absurd (omega arith)
fields_read (suc count) presence bytes (value ∷ values) long are tells =
    let allowed : is_allowed (presence % 2 == 1) (signed_number_in bytes) ≡ true = first_allowed count presence bytes are in
    let told : then_some (presence % 2 == 1) (signed_number_in bytes) ≡ value =
    ap (λ (b : Bool). then_some b (signed_number_in bytes)) (sym (first_bit presence)) ∙ sym (tells 0 (omega arith)) in
    let others : slot_values_in count (presence / 2) (drop 4 bytes) ≡ Some values =
    fields_read count (presence / 2) (drop 4 bytes) values (omega arith) (rest_fields count presence bytes are)
    (λ field within. tells (suc field) (omega arith) ∙ ap (λ (b : Bool). then_some b (number_of bytes (suc field))) (next_bit presence field)
    ∙ ap (then_some (has_value (presence / 2) field)) (next_number bytes field)) in
    rw (allowed, told, others) refl

-- and some are
pub some_read : (count presence : ℕ) (bytes : List ℕ) → AreFields count presence bytes → IsSome (slot_values_in count presence bytes)
unfolding slot_values_in
some_read zero presence bytes are = let none : presence ≡ 0 = omega (arith, are.below) in rw none refl
some_read (suc count) presence bytes are =
    let allowed : is_allowed (presence % 2 == 1) (signed_number_in bytes) ≡ true = first_allowed count presence bytes are in
    let others : IsSome (slot_values_in count (presence / 2) (drop 4 bytes)) = some_read count (presence / 2) (drop 4 bytes) (rest_fields count presence bytes are) in
    rw allowed (some_before (then_some (presence % 2 == 1) (signed_number_in bytes)) (slot_values_in count (presence / 2) (drop 4 bytes)) others)

-- no values are read where a field is not allowed, or a bit is left
pub none_read : (count presence : ℕ) (bytes : List ℕ) → ((AreFields count presence bytes) → ⊥) → slot_values_in count presence bytes ≡ None
none_read count presence bytes not_fields = by (slot_values_in count presence bytes) refl
  where
    by : (read : Option (List (Option ℤ))) → slot_values_in count presence bytes ≡ read → read ≡ None
    by None is = refl
    by (Some values) is = absurd (not_fields (fields_of count presence bytes values is))

-- what is made of the bit and of the number of a field, as they are read
pub told : {X : Type 0} (f : Bool → ℤ → X) (presence field : ℕ) (slot : List ℕ) (number : ℤ) → FitsSigned w32 number → number ≡ signed_number_in (drop (20 + 4 * field) slot) →
    f (bit_and (presence / 2 ^ field) 1 == 1) (cast_signed w32 (cast_unsigned w32 number)) ≡ f (has_value presence field) (number_of (drop 20 slot) field)
told f presence field slot number fits is =
    let bit : (bit_and (presence / 2 ^ field) 1 == 1) ≡ has_value presence field = ap (λ (n : ℕ). n == 1) (shr_and_one presence field) in
    let same : cast_signed w32 (cast_unsigned w32 number) ≡ number_of (drop 20 slot) field =
    to_z-of_z w32 number fits ∙ is ∙ ap signed_number_in (sym (drop-drop (4 * field) 20 slot)) in
    ap (λ (b : Bool). f b (cast_signed w32 (cast_unsigned w32 number))) bit ∙ ap (f (has_value presence field)) same

-- one field more
pub tells_more : (presence field : ℕ) (bytes : List ℕ) (values : List (Option ℤ)) (value : Option ℤ) → field < length values →
    value ≡ then_some (has_value presence field) (number_of bytes field) → Tells field presence bytes values → Tells (field + 1) presence bytes (set values field value)
tells_more presence field bytes values value within is before =
    below_more _ _
    (λ k h. let other : k ≢ field = omega arith in rw get_or-set_other (before k h))
    (rw get_or-set_same is)
