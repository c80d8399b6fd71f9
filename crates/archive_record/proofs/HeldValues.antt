-- The test of the values that a record can hold decides whether it can hold them.
use Rattle.std.proofs.Common.{◌≡◌, ◌≢◌, ℕ, zero, suc, ℤ, ◌<◌, Bool, true, false, List, [], ◌∷◌, length, get_or, Option, Some, None, refl, sym, ap, ◌∙◌, ◌↔◌, arith, rules}
use Rattle.std.specs.Prelude.{int_le, not, ◌&&◌, ◌≤ℤ◌}
use Rattle.std.specs.Ordering.{int_eq}
use Rattle.std.specs.Option.{ForSome}
use Rattle.std.proofs.lemmas.Bool.{and_parts, false≢true}
use Rattle.std.proofs.lemmas.Bool.Decides.{Decides-int_eq}
use Rattle.archive_record.specs.declared.place.Place.{Place}
use Rattle.archive_record.specs.Kind.{value_of_kind, least_of_kind, greatest_of_kind}
use Rattle.archive_record.specs.Place.{CanHold, means_missing, can_hold}
use Rattle.archive_record.specs.Table.{field_places, places, place}
use Rattle.archive_record.specs.declared.kind.Kind.TheVariants.{Byte}
use Rattle.station_base.specs.declared.row.Row.{Row}
use Rattle.archive_record.specs.Writing.{CanHoldAll, can_hold_all, can_tell}
use Rattle.station_base.specs.Fields.{field_count}

le_to : (a b : ℤ) → int_le a b ≡ true → a ≤ℤ b
le_to a b h = search rules

le_from : (a b : ℤ) → a ≤ℤ b → int_le a b ≡ true
le_from a b h = search rules

mark_to : (p : Place) (v : ℤ) (mark : Option ℕ) → not (means_missing p v mark) ≡ true → ForSome mark (λ m. v ≢ value_of_kind p.kind m)
mark_to p v None h m e same = cc
mark_to p v (Some mark) h m e same =
    let here : mark ≡ m = cc in
    let found : int_eq v (value_of_kind p.kind mark) ≡ true = (Decides-int_eq v (value_of_kind p.kind mark)).1 (same ∙ ap (value_of_kind p.kind) (sym here)) in
    let wrong : not true ≡ true = rw found at h in
    cc

mark_from : (p : Place) (v : ℤ) (mark : Option ℕ) → ForSome mark (λ m. v ≢ value_of_kind p.kind m) → not (means_missing p v mark) ≡ true
mark_from p v None h = refl
mark_from p v (Some mark) h = go (int_eq v (value_of_kind p.kind mark)) refl
  where
    go : (b : Bool) → int_eq v (value_of_kind p.kind mark) ≡ b → not b ≡ true
    go true e = absurd (h mark refl ((Decides-int_eq v (value_of_kind p.kind mark)).0 e))
    go false e = refl

hold_to : (p : Place) (v : Option ℤ) → can_hold p v ≡ true → CanHold p v
hold_to p None h = h
hold_to p (Some v) h =
    let outer = and_parts (int_le (least_of_kind p.kind) v && int_le v (greatest_of_kind p.kind)) (not (means_missing p v p.mark)) h in
    let inner = and_parts (int_le (least_of_kind p.kind) v) (int_le v (greatest_of_kind p.kind)) outer.0 in
    ((le_to (least_of_kind p.kind) v inner.0, le_to v (greatest_of_kind p.kind) inner.1), mark_to p v p.mark outer.1)

hold_from : (p : Place) (v : Option ℤ) → CanHold p v → can_hold p v ≡ true
hold_from p None h = h
hold_from p (Some v) h =
    rw (le_from (least_of_kind p.kind) v h.0.0, le_from v (greatest_of_kind p.kind) h.0.1, mark_from p v p.mark h.1) refl

all_to : (ps : List Place) (vs : List (Option ℤ)) → can_hold_all ps vs ≡ true → (i : ℕ) → i < length ps → (d : Place) → CanHold (get_or ps i d) (get_or vs i None)
all_to [] vs h i below d = absurd (omega arith)
all_to (p ∷ ps) [] h zero below d = hold_to p None (and_parts (can_hold p None) (can_hold_all ps []) h).0
all_to (p ∷ ps) [] h (suc i) below d = all_to ps [] (and_parts (can_hold p None) (can_hold_all ps []) h).1 i (omega arith) d
all_to (p ∷ ps) (v ∷ vs) h zero below d = hold_to p v (and_parts (can_hold p v) (can_hold_all ps vs) h).0
all_to (p ∷ ps) (v ∷ vs) h (suc i) below d = all_to ps vs (and_parts (can_hold p v) (can_hold_all ps vs) h).1 i (omega arith) d

all_from : (ps : List Place) (vs : List (Option ℤ)) (d : Place) → ((i : ℕ) → i < length ps → CanHold (get_or ps i d) (get_or vs i None)) → can_hold_all ps vs ≡ true
all_from [] vs d h = refl
all_from (p ∷ ps) [] d h =
    let first : can_hold p None ≡ true = hold_from p None (h zero (omega arith)) in
    let rest : can_hold_all ps [] ≡ true = all_from ps [] d (λ i below. h (suc i) (omega arith)) in
    rw (first, rest) refl
all_from (p ∷ ps) (v ∷ vs) d h =
    let first : can_hold p v ≡ true = hold_from p v (h zero (omega arith)) in
    let rest : can_hold_all ps vs ≡ true = all_from ps vs d (λ i below. h (suc i) (omega arith)) in
    rw (first, rest) refl

length-places : length places ≡ field_count
unfolding places field_places
length-places = refl

-- values that pass the test are those that a record can hold
pub can_hold_to : (vs : List (Option ℤ)) → can_hold_all places vs ≡ true → CanHoldAll vs
can_hold_to vs h field below = all_to places vs h field (rw length-places below) (place 0 Byte None)

-- and those that a record can hold pass it
pub can_hold_from : (vs : List (Option ℤ)) → CanHoldAll vs → can_hold_all places vs ≡ true
can_hold_from vs h = all_from places vs (place 0 Byte None) (λ i below. h i (rw length-places at below))

-- whatever is so exactly where a record can hold the values is the test
pub can_hold_all-decides : (vs : List (Option ℤ)) (b : Bool) → (b ≡ true) ↔ CanHoldAll vs → b ≡ can_hold_all places vs
can_hold_all-decides vs true iff = sym (can_hold_from vs (iff.0 refl))
can_hold_all-decides vs false iff = go (can_hold_all places vs) refl
  where
    go : (test : Bool) → can_hold_all places vs ≡ test → false ≡ can_hold_all places vs
    go true holds = absurd (false≢true (iff.1 (can_hold_to vs holds)))
    go false fails = sym fails

-- where limits made no field missing, a record can tell a row exactly where it can hold the values
pub can_tell-holds : (row : Row) → row.limited ≡ 0 → can_tell row ≡ can_hold_all places row.values
can_tell-holds row unlimited = rw unlimited refl
