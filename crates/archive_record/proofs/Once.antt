-- Each value is told by one number, and each number by its bytes.
use Rattle.std.proofs.Common.{◌≡◌, ℕ, ◌+◌, ◌<◌, ◌≤◌, ◌⊎◌, Bool, true, false, cond, List, slice_index, Option, Some, None, refl, sym, ◌∙◌, ap, arith, inl, inr, w16, of_z}
use Rattle.std.proofs.lemmas.Bool.Decides.{nat_tests}
use Rattle.std.proofs.lemmas.Int.{ints, of_z-to_z}
use Rattle.archive_record.specs.declared.kind.Kind.{Kind}
use Rattle.archive_record.specs.declared.kind.Kind.TheVariants.{SignedWord, Word, Byte, Degrees}
use Rattle.archive_record.specs.declared.place.Place.{Place}
use Rattle.archive_record.specs.Kind.{IsRaw, value_of_kind, width_of, word_at, raw_at}
use Rattle.archive_record.specs.Place.{is_mark, told_value}

-- no two numbers of a kind mean one value
pub value_once : (kind : Kind) (a b : ℕ) → IsRaw kind a → IsRaw kind b → value_of_kind kind a ≡ value_of_kind kind b → a ≡ b
value_once SignedWord a b a_small b_small same = sym (of_z-to_z w16 a a_small) ∙ ap (of_z w16) same ∙ of_z-to_z w16 b b_small
value_once Word a b a_small b_small same = cc
value_once Byte a b a_small b_small same = cc
value_once Degrees a b a_small b_small same = omega (arith, ints)

-- a number is the mark, or it is not
marked : (mark : Option ℕ) (a b : ℕ) → is_mark mark a ≡ true → is_mark mark b ≡ true → a ≡ b
marked None a b a_is b_is = cc
marked (Some mark) a b a_is b_is = grind (arith, nat_tests)

told_by : (kind : Kind) (mark : Option ℕ) (a b : ℕ) → IsRaw kind a → IsRaw kind b → (s t : Bool) → is_mark mark a ≡ s → is_mark mark b ≡ t →
    cond s None (Some (value_of_kind kind a)) ≡ cond t None (Some (value_of_kind kind b)) → a ≡ b
told_by kind mark a b a_small b_small true true a_is b_is same = marked mark a b a_is b_is
told_by kind mark a b a_small b_small true false a_is b_is same = cc
told_by kind mark a b a_small b_small false true a_is b_is same = cc
told_by kind mark a b a_small b_small false false a_is b_is same =
    let value : value_of_kind kind a ≡ value_of_kind kind b = cc in value_once kind a b a_small b_small value

-- what a place tells is told by one number
pub told_once : (place : Place) (a b : ℕ) → IsRaw place.kind a → IsRaw place.kind b → told_value place a ≡ told_value place b → a ≡ b
told_once place a b a_small b_small same =
    told_by place.kind place.mark a b a_small b_small (is_mark place.mark a) (is_mark place.mark b) refl refl same

-- a number in bytes has room in them
pub raw_small : (bytes : List ℕ) (kind : Kind) (offset : ℕ) → ((i : ℕ) → slice_index bytes i < 256) → IsRaw kind (raw_at bytes kind offset)
raw_small bytes SignedWord offset small = omega (arith, small offset, small (offset + 1))
raw_small bytes Word offset small = omega (arith, small offset, small (offset + 1))
raw_small bytes Byte offset small = small offset
raw_small bytes Degrees offset small = small offset

cases_le : (i j : ℕ) → (i ≤ j) ⊎ (j < i)
cases_le i j = grind arith

pub word_once : (a b : List ℕ) (offset : ℕ) → ((i : ℕ) → slice_index a i < 256) → ((i : ℕ) → slice_index b i < 256) →
    word_at a offset ≡ word_at b offset → (i : ℕ) → offset ≤ i → i < offset + 2 → slice_index a i ≡ slice_index b i
word_once a b offset a_small b_small same i from to =
    let low : slice_index a offset ≡ slice_index b offset = omega (arith, a_small offset, b_small offset) in
    let high : slice_index a (offset + 1) ≡ slice_index b (offset + 1) = omega (arith, low) in
    elim (cases_le i offset) [
      | inl first ↦ (let at : i ≡ offset = omega arith in rw at low)
      | inr second ↦ (let at : i ≡ offset + 1 = omega arith in rw at high)
    ]

-- and equal numbers have equal bytes
pub raw_once : (a b : List ℕ) (kind : Kind) (offset : ℕ) → ((i : ℕ) → slice_index a i < 256) → ((i : ℕ) → slice_index b i < 256) →
    raw_at a kind offset ≡ raw_at b kind offset → (i : ℕ) → offset ≤ i → i < offset + width_of kind → slice_index a i ≡ slice_index b i
raw_once a b SignedWord offset a_small b_small same i from to = word_once a b offset a_small b_small same i from to
raw_once a b Word offset a_small b_small same i from to = word_once a b offset a_small b_small same i from to
raw_once a b Byte offset a_small b_small same i from to = let at : i ≡ offset = omega arith in rw at same
raw_once a b Degrees offset a_small b_small same i from to = let at : i ≡ offset = omega arith in rw at same

-- a number stays where its bytes stay
pub raw_stays : (a b : List ℕ) (kind : Kind) (offset : ℕ) → ((i : ℕ) → offset ≤ i → i < offset + width_of kind → slice_index a i ≡ slice_index b i) →
    raw_at a kind offset ≡ raw_at b kind offset
raw_stays a b SignedWord offset same = omega (arith, same offset (omega arith) (omega arith), same (offset + 1) (omega arith) (omega arith))
raw_stays a b Word offset same = omega (arith, same offset (omega arith) (omega arith), same (offset + 1) (omega arith) (omega arith))
raw_stays a b Byte offset same = same offset (omega arith) (omega arith)
raw_stays a b Degrees offset same = same offset (omega arith) (omega arith)
