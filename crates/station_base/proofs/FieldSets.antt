-- Fields as bits, and those that have no value.
use Rattle.std.proofs.Common.{◌≡◌, ◌≢◌, ℕ, ℤ, ◌*◌, ◌%◌, ◌^◌, ◌<◌, ◌≤◌, ◌==◌, ◌&&◌, Bool, true, false, List, get_or, Option, None, refl, sym, ap, subst, ◌∙◌, arith, is_some}
use Rattle.std.specs.Prelude.{nat_lt, not, bit_or}
use Rattle.std.specs.Int.{w64}
use Rattle.std.specs.List.{list_all, range_with_len}
use Rattle.std.proofs.Math.Nat.{pow-le-pow_right, mod-eq_of_lt}
use Rattle.std.proofs.lemmas.Nat.{or_lt}
use Rattle.std.proofs.lemmas.Bool.{and_parts, ltb-true, lt-ltb, false≢true}
use Rattle.std.proofs.lemmas.List.Elements.{All-get_or, All-from_get_or}
use Rattle.std.proofs.lemmas.List.FromFn.{length-range_with_len, get_or-range_with_len}
use Rattle.std.proofs.lemmas.List.Sums.{AllPass-from_list_all, list_all-from_AllPass}
use Rattle.std.proofs.lemmas.Nat.Bits.{bit_at-zero, bit_at_set_same, bit_at_set_other}
use Rattle.station_base.specs.FieldSet.{is_member, has_value, are_missing, AreMissing}
use Rattle.station_base.specs.Fields.{field_count}

-- a field is not one of them, or has no value
abbrev pub is_free : ℕ → List (Option ℤ) → ℕ → Bool
is_free bits values field = not (is_member bits field && has_value values field)

all_free : (p : ℕ → Bool) (n : ℕ) → ((field : ℕ) → field < n → p field ≡ true) → list_all p (range_with_len 0 n) ≡ true
all_free p n each =
    let P : ℕ → Type 0 = λ x. p x ≡ true in
    list_all-from_AllPass p (range_with_len 0 n)
    (All-from_get_or P (range_with_len 0 n) 0 (λ i within.
    let small : i < n = omega (arith, length-range_with_len 0 n) in
    let same : get_or (range_with_len 0 n) i 0 ≡ i = omega (arith, get_or-range_with_len 0 n i 0 small) in
    subst P (sym same) (each i small)))

each_free : (p : ℕ → Bool) (n : ℕ) → list_all p (range_with_len 0 n) ≡ true → (field : ℕ) → field < n → p field ≡ true
each_free p n all field small =
    let P : ℕ → Type 0 = λ x. p x ≡ true in
    let same : get_or (range_with_len 0 n) field 0 ≡ field = omega (arith, get_or-range_with_len 0 n field 0 small) in
    subst P same
    (All-get_or P (range_with_len 0 n) field 0 (omega (arith, length-range_with_len 0 n)) (AllPass-from_list_all p (range_with_len 0 n) all))

-- fields that are there, each of which is free, are missing
pub missing_where : (bits : ℕ) (values : List (Option ℤ)) → bits < 2 ^ field_count → ((field : ℕ) → field < field_count → is_free bits values field ≡ true) → AreMissing bits values
unfolding are_missing
missing_where bits values small each = both (nat_lt bits (2 ^ field_count)) _ (lt-ltb bits (2 ^ field_count) small) (all_free (is_free bits values) field_count each)
  where
    both : (a b : Bool) → a ≡ true → b ≡ true → (a && b) ≡ true
    both a b x y = rw (x, y) refl

-- and the other way round
pub missing_below : (bits : ℕ) (values : List (Option ℤ)) → AreMissing bits values → bits < 2 ^ field_count
unfolding are_missing
missing_below bits values are = ltb-true bits (2 ^ field_count) (and_parts (nat_lt bits (2 ^ field_count)) _ are).0

pub missing_free : (bits : ℕ) (values : List (Option ℤ)) → AreMissing bits values → (field : ℕ) → field < field_count → is_free bits values field ≡ true
unfolding are_missing
missing_free bits values are field small = each_free (is_free bits values) field_count (and_parts (nat_lt bits (2 ^ field_count)) _ are).1 field small

pub not_below : (bits : ℕ) (values : List (Option ℤ)) → (bits < 2 ^ field_count → ⊥) → are_missing bits values ≡ false
not_below bits values above = refuted (are_missing bits values) (λ are. above (missing_below bits values are))
  where
    refuted : (b : Bool) → (b ≡ true → ⊥) → b ≡ false
    refuted true not_so = absurd (not_so refl)
    refuted false not_so = refl

-- a field with a value is not missing
pub not_missing : (bits : ℕ) (values : List (Option ℤ)) (field : ℕ) → field < field_count → is_member bits field ≡ true → is_some (get_or values field None) ≡ true →
    are_missing bits values ≡ false
not_missing bits values field small member some = refuted (are_missing bits values) (λ are. false≢true (sym (taken (is_member bits field) (has_value values field) member some) ∙ missing_free bits values are field small))
  where
    taken : (a b : Bool) → a ≡ true → b ≡ true → not (a && b) ≡ false
    taken a b x y = rw (x, y) refl

    refuted : (b : Bool) → (b ≡ true → ⊥) → b ≡ false
    refuted true not_so = absurd (not_so refl)
    refuted false not_so = refl

-- and one without a value, or of another field, is free
pub free_by : (bits : ℕ) (values : List (Option ℤ)) (field : ℕ) (some member : Bool) → some ≡ is_some (get_or values field None) → member ≡ is_member bits field → (some && member) ≡ false →
    is_free bits values field ≡ true
free_by bits values field some member s m both =
    ap not (and_swapped (is_member bits field) (has_value values field) (sym (ap (λ (b : Bool). b && member) s ∙ ap (λ (b : Bool). has_value values field && b) m) ∙ both))
  where
    and_swapped : (a b : Bool) → (b && a) ≡ false → (a && b) ≡ false
    and_swapped true true is = is
    and_swapped true false is = refl
    and_swapped false b is = refl

-- no fields are missing in whatever values
pub none_missing : (values : List (Option ℤ)) → AreMissing 0 values
none_missing values = missing_where 0 values (omega arith) (λ field small. ap (λ (n : ℕ). not ((n == 1) && has_value values field)) (bit_at-zero field))

pub none_missing_of : (bits : ℕ) (values : List (Option ℤ)) → bits ≡ 0 → AreMissing bits values
none_missing_of bits values none = rw none (none_missing values)

-- one field more is a field that is there
pub one_more : (bits field : ℕ) → bits < 2 ^ field_count → field < field_count → bit_or bits (1 * 2 ^ field % 2 ^ 64) < 2 ^ field_count
one_more bits field small few =
    let at_most : field ≤ 36 = omega arith in
    let pow : 2 ^ field ≤ 2 ^ 36 = pow-le-pow_right (omega arith) at_most in
    let same : 1 * 2 ^ field % 2 ^ 64 ≡ 1 * 2 ^ field = mod-eq_of_lt (omega arith) in
    rw same (or_lt field_count bits (1 * 2 ^ field) small (omega arith))

-- it is one of them then, and the others are as before
pub member_added : (bits field : ℕ) → field < field_count → is_member (bit_or bits (1 * 2 ^ field % 2 ^ 64)) field ≡ true
member_added bits field few = ap (λ (n : ℕ). n == 1) (bit_at_set_same w64 bits field (omega arith))

pub member_kept : (bits field other : ℕ) → field < field_count → other ≢ field → is_member (bit_or bits (1 * 2 ^ field % 2 ^ 64)) other ≡ is_member bits other
member_kept bits field other few differs = ap (λ (n : ℕ). n == 1) (bit_at_set_other w64 bits field (omega arith) other differs)
