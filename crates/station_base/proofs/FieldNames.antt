-- Fields by their names.
use Rattle.std.proofs.Common.{◌≡◌, ℕ, suc, zero, ◌+◌, ◌<◌, Bool, true, false, cond, List, [], ◌∷◌, length, get_or, Option, Some, None, refl, arith}
use Rattle.std.specs.Prelude.{IsSome, IfSome, bytes_eq, is_some}
use Rattle.std.specs.List.{position, position_from}
use Rattle.std.proofs.lemmas.Iterator.Adapters.{position_from-zero}
use Rattle.std.proofs.lemmas.List.Quantifiers.{position-Some}
use Rattle.std.proofs.lemmas.Slice.Eq.{bytes_eq-Decides}
use Rattle.station_base.specs.Fields.{fields, FieldText, field, name_of, field_named, field_count}

-- where a test passes somewhere, it passes first somewhere
is_some-position_from : {A : Type 0} (p : A → Bool) (k : ℕ) (xs : List A) (i : ℕ) (d : A) → i < length xs → p (get_or xs i d) ≡ true → IsSome (position_from p k xs)
is_some-position_from p k [] i d below passes = absurd (omega arith)
is_some-position_from p k (x ∷ xs) zero d below passes = rw passes
is_some-position_from p k (x ∷ xs) (suc i) d below passes =
    let rest : IsSome (position_from p (k + 1) xs) = is_some-position_from p (k + 1) xs i d (omega arith) passes in
    elim (p x) as (λ b. is_some (cond b (Some k) (position_from p (k + 1) xs)) ≡ true) [ true ↦ refl | false ↦ rest ]

-- there are 37 fields
length-fields : length fields ≡ field_count
unfolding fields
length-fields = refl

module _ (name : List ℕ) where
  abbrev is_called : FieldText → Bool
  is_called text = bytes_eq text.name name

  -- where the definition finds a field, it is of that name
  from_named : (found : Option ℕ) → ((f : ℕ) → f < field_count → name_of f ≡ name → found ≡ Some f)
      → (f : ℕ) → field_named name ≡ Some f → found ≡ Some f
  unfolding field_named
  from_named found only f e =
      let (within, called, _) = position-Some is_called fields f (field [] []) e in
      only f (rw length-fields at within) ((bytes_eq-Decides _ _).0 called)

  -- where it finds none, there is no field of that name
  none_named : (f : ℕ) → f < field_count → name_of f ≡ name → field_named name ≡ None → ⊥
  unfolding field_named
  none_named f within called none =
      let some = is_some-position_from is_called 0 fields f (field [] []) (rw length-fields within) ((bytes_eq-Decides _ _).1 called) in
      let here : is_some (position is_called fields) ≡ true = rw (position_from-zero is_called fields) some in
      let no : is_some (position is_called fields) ≡ false = rw none in
      cc

found_none : (name : List ℕ) (found : Option ℕ) → IfSome found (λ f. name_of f ≡ name) → IfSome found (λ f. f < field_count)
    → field_named name ≡ None → found ≡ None
found_none name None named below none = refl
found_none name (Some f) named below none = absurd (none_named name f below named none)

found_is : (name : List ℕ) (found : Option ℕ) → IfSome found (λ f. name_of f ≡ name) → IfSome found (λ f. f < field_count)
    → ((f : ℕ) → f < field_count → name_of f ≡ name → found ≡ Some f) → (q : Option ℕ) → field_named name ≡ q → found ≡ q
found_is name found named below only None e = found_none name found named below e
found_is name found named below only (Some f) e = from_named name found only f e

-- a search that finds a field of that name, and none but the one, finds what the definition does
pub is_field_named : (name : List ℕ) (found : Option ℕ) → IfSome found (λ f. name_of f ≡ name) → IfSome found (λ f. f < field_count)
    → ((f : ℕ) → f < field_count → name_of f ≡ name → found ≡ Some f) → found ≡ field_named name
is_field_named name found named below only = found_is name found named below only (field_named name) refl
