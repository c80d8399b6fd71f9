-- The values of fields, as bytes and back.
use Rattle.std.proofs.Common.{◌≡◌, ℕ, ℤ, pos, zero, suc, ◌+◌, ◌*◌, ◌/◌, ◌%◌, ◌<◌, ◌≤◌, ◌==◌, Bool, true, false, List, [], ◌∷◌, ◌++◌, length, take, drop, All, Option, Some, None, refl, sym, ap, ◌∙◌, arith}
use Rattle.std.specs.Prelude.{FitsSigned, unsigned_abs, neg_ℤ, negsuc, ◌≤ℤ◌}
use Rattle.std.specs.Bool.{then_some}
use Rattle.std.specs.Int.{w32, cast_unsigned}
use Rattle.std.specs.Option.{unwrap_or}
use Rattle.std.proofs.Math.Seq.{take-add}
use Rattle.std.proofs.lemmas.Bool.{eqb-true}
use Rattle.std.proofs.lemmas.Bool.Decides.{nat_tests}
use Rattle.std.proofs.lemmas.Int.{ints, fits_signed_from_abs}
use Rattle.std.proofs.lemmas.List.{length-drop}
use Rattle.std.proofs.lemmas.List.Elements.{All-head, All-tail, All-nil, All-cons}
use Rattle.station_base.specs.RowLine.{IsPrintable}
use Rattle.station_base.proofs.Printable.{printable_some, printable_none}
use Rattle.byteorder.specs.Endian.{little_bytes}
use Rattle.row_slot.specs.Values.{bit_of, presence_of, numbers_of, spelled_numbers, signed_number_in, is_allowed, before, at_end, slot_values_in}
use Rattle.causes.specs.Lists.{AreBytes}
use Rattle.causes.proofs.Bytes.{bytes_behind}
use Rattle.row_slot.proofs.Bytes.{number_again, number_read}
use Rattle.station_base.specs.Limits.{farthest_value}

-- a value within the bound
record IsNear (z : ℤ) : Type 0 where
  pub from : neg_ℤ (pos farthest_value) ≤ℤ z
  pub to : z ≤ℤ pos farthest_value

near_of : (z : ℤ) → IsPrintable (Some z) → IsNear z
near_of z printable = let within = printable z refl in record { from = within.0; to = within.1 }

small_of : (z : ℤ) → IsNear z → unsigned_abs z ≤ farthest_value
small_of (pos n) near = omega (arith, ints, near.to)
small_of (negsuc n) near = omega (arith, ints, near.from)

allowed_of : (z : ℤ) → IsNear z → is_allowed true z ≡ true
allowed_of z near = let small = small_of z near in grind (arith, nat_tests)

printable_of : (z : ℤ) → is_allowed true z ≡ true → IsPrintable (Some z)
printable_of z test =
    let small : unsigned_abs z ≤ farthest_value = grind (arith, nat_tests) in
    printable_some z (omega (arith, ints), omega (arith, ints))

zero_of : (z : ℤ) → is_allowed false z ≡ true → z ≡ pos 0
zero_of (pos n) test = ap pos (eqb-true n 0 test)
zero_of (negsuc n) test = let none : suc n ≡ 0 = eqb-true (suc n) 0 test in absurd (omega arith)

fits_of : (z : ℤ) → IsNear z → FitsSigned w32 z
fits_of z near = let small = small_of z near in fits_signed_from_abs w32 z (omega arith)

-- the next bit, and those behind it
bit_first : (bit rest : ℕ) → bit ≤ 1 → ((bit + 2 * rest) % 2 ≡ bit) × ((bit + 2 * rest) / 2 ≡ rest)
bit_first bit rest small = (omega arith, omega arith)

-- one field more is read
more_read : (count presence bit rest : ℕ) (bytes behind : List ℕ) (number : ℤ) (value : Option ℤ) (values : List (Option ℤ)) →
    presence % 2 ≡ bit → presence / 2 ≡ rest → signed_number_in bytes ≡ number → drop 4 bytes ≡ behind →
    is_allowed (bit == 1) number ≡ true → then_some (bit == 1) number ≡ value → slot_values_in count rest behind ≡ Some values →
    slot_values_in (suc count) presence bytes ≡ Some (value ∷ values)
unfolding slot_values_in
more_read count presence bit rest bytes behind number value values low high read after allowed told others =
    rw (low, high, read, after, allowed, told, others) refl

-- what is written of values is read as these values
pub values_back : (values : List (Option ℤ)) (rest : List ℕ) → All IsPrintable values →
    slot_values_in (length values) (presence_of values) (spelled_numbers (numbers_of values) ++ rest) ≡ Some values
unfolding slot_values_in
values_back [] rest all = refl
values_back (None ∷ values) rest all =
    let bits = bit_first 0 (presence_of values) (omega arith) in
    let behind : List ℕ = spelled_numbers (numbers_of values) ++ rest in
    more_read (length values) (presence_of (None ∷ values)) 0 (presence_of values) (spelled_numbers (numbers_of (None ∷ values)) ++ rest) behind (pos 0) None values
    bits.0 bits.1 refl refl refl refl (values_back values rest (All-tail IsPrintable None values all))
values_back (Some z ∷ values) rest all =
    let near : IsNear z = near_of z (All-head IsPrintable (Some z) values all) in
    let bits = bit_first 1 (presence_of values) (omega arith) in
    let behind : List ℕ = spelled_numbers (numbers_of values) ++ rest in
    more_read (length values) (presence_of (Some z ∷ values)) 1 (presence_of values) (spelled_numbers (numbers_of (Some z ∷ values)) ++ rest) behind z (Some z) values
    bits.0 bits.1 (number_read z behind (fits_of z near)) refl (allowed_of z near) refl (values_back values rest (All-tail IsPrintable (Some z) values all))

-- what is read of bytes
pub record AreTold (count presence : ℕ) (bytes : List ℕ) (values : List (Option ℤ)) : Type 0 where
  pub long : length values ≡ count
  pub bits : presence ≡ presence_of values
  pub numbers : spelled_numbers (numbers_of values) ≡ take (4 * count) bytes
  pub printable : All IsPrintable values

pub parts_of : (allowed : Bool) (value : Option ℤ) (others : Option (List (Option ℤ))) (values : List (Option ℤ)) → before allowed value others ≡ Some values →
    (allowed ≡ true) × ((rest : List (Option ℤ)) × ((others ≡ Some rest) × (values ≡ value ∷ rest)))
parts_of false value others values is = cc
parts_of true value None values is = cc
parts_of true value (Some rest) values is = (refl, (rest, (refl, cc)))

pub end_of : (none : Bool) (values : List (Option ℤ)) → at_end none ≡ Some values → (none ≡ true) × (values ≡ [])
end_of false values is = cc
end_of true values is = (refl, cc)

-- the value, its bit and its number
bit_told : (bit : ℕ) (number : ℤ) → bit < 2 → bit_of (then_some (bit == 1) number) ≡ bit
bit_told zero number small = refl
bit_told (suc zero) number small = refl
bit_told (suc (suc bit)) number small = absurd (omega arith)

number_told : (present : Bool) (number : ℤ) → is_allowed present number ≡ true → unwrap_or (then_some present number) (pos 0) ≡ number
number_told true number allowed = refl
number_told false number allowed = sym (zero_of number allowed)

printable_told : (present : Bool) (number : ℤ) → is_allowed present number ≡ true → IsPrintable (then_some present number)
printable_told true number allowed = printable_of number allowed
printable_told false number allowed = printable_none

none_told : (presence : ℕ) (bytes : List ℕ) (values : List (Option ℤ)) → presence ≡ 0 → values ≡ [] → AreTold 0 presence bytes values
none_told presence bytes values none empty = record {
  long = rw empty refl;
  bits = rw (none, empty) refl;
  numbers = rw empty refl;
  printable = rw empty (All-nil IsPrintable);
}

one_told : (count presence : ℕ) (bytes : List ℕ) (values rest : List (Option ℤ)) → 4 * suc count ≤ length bytes → AreBytes bytes →
    is_allowed (presence % 2 == 1) (signed_number_in bytes) ≡ true → values ≡ then_some (presence % 2 == 1) (signed_number_in bytes) ∷ rest →
    AreTold count (presence / 2) (drop 4 bytes) rest → AreTold (suc count) presence bytes values
one_told count presence bytes values rest long fits allowed is told =
    let number : ℤ = signed_number_in bytes in
    let value : Option ℤ = then_some (presence % 2 == 1) number in
    let bit : bit_of value ≡ presence % 2 = bit_told (presence % 2) number (omega arith) in
    let same : unwrap_or value (pos 0) ≡ number = number_told (presence % 2 == 1) number allowed in
    let first : little_bytes 4 (cast_unsigned w32 (unwrap_or value (pos 0))) ≡ take 4 bytes =
    ap (λ (z : ℤ). little_bytes 4 (cast_unsigned w32 z)) same ∙ number_again bytes (omega arith) fits in
    let wide : 4 * suc count ≡ 4 + 4 * count = omega arith in
    let whole : spelled_numbers (numbers_of (value ∷ rest)) ≡ take (4 * suc count) bytes =
    ap (λ (xs : List ℕ). xs ++ spelled_numbers (numbers_of rest)) first ∙ ap (λ (xs : List ℕ). take 4 bytes ++ xs) told.numbers
    ∙ sym (take-add 4 (4 * count) bytes) ∙ ap (λ (n : ℕ). take n bytes) (sym wide) in
    record {
      long = rw is (ap suc told.long);
      bits = rw is (omega (arith, bit, told.bits));
      numbers = rw is whole;
      printable = rw is (All-cons IsPrintable value rest (printable_told (presence % 2 == 1) number allowed) told.printable);
    }

-- what is read of bytes is written as these bytes
pub values_again : (count presence : ℕ) (bytes : List ℕ) (values : List (Option ℤ)) → 4 * count ≤ length bytes → AreBytes bytes →
    slot_values_in count presence bytes ≡ Some values → AreTold count presence bytes values
unfolding slot_values_in
values_again zero presence bytes values long fits is =
    let parts = end_of (presence == 0) values is in
    none_told presence bytes values (eqb-true presence 0 parts.0) parts.1
values_again (suc count) presence bytes values long fits is =
    let number : ℤ = signed_number_in bytes in
    let value : Option ℤ = then_some (presence % 2 == 1) number in
    let parts = parts_of (is_allowed (presence % 2 == 1) number) value (slot_values_in count (presence / 2) (drop 4 bytes)) values is in
    one_told count presence bytes values parts.1.0 long fits parts.0 parts.1.1.1
    (values_again count (presence / 2) (drop 4 bytes) parts.1.0 (omega (arith, length-drop 4 bytes)) (bytes_behind 4 bytes fits) parts.1.1.0)
