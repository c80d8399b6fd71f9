-- The places of the table: they lie within a record, one after another, and with the stamp and the revision they cover it.
use Rattle.std.proofs.Common.{◌≡◌, ℕ, zero, suc, ◌+◌, ◌<◌, ◌≤◌, ◌⊎◌, ◌&&◌, ◌||◌, Bool, true, false, get_or, refl, subst, arith, inl, inr, nat_le, nat_lt, Option, Some, None, ◌^◌}
use Rattle.std.specs.Option.{ForSome}
use Rattle.std.proofs.lemmas.Bool.Decides.{nat_tests}
use Rattle.std.proofs.lemmas.Bool.{and_parts, cases_lt, false≢true}
use Rattle.std.proofs.lemmas.List.{get_or_default}
use Rattle.archive_record.specs.declared.place.Place.{Place}
use Rattle.archive_record.specs.Kind.{width_of}
use Rattle.archive_record.specs.Place.{IsPlace, record_size}
use Rattle.archive_record.specs.Table.{place, field_places, places, place_of}
use Rattle.archive_record.specs.declared.kind.Kind.TheVariants.{Byte}
use Rattle.station_base.specs.Fields.{field_count}

-- where a place ends
abbrev pub end_of : Place → ℕ
end_of place = place.offset + width_of place.kind

-- a test of all numbers below a bound
unfoldable pub all_below : ℕ → (ℕ → Bool) → Bool
all_below zero test = true
all_below (suc n) test = test n && all_below n test

pub all_below-at : (n : ℕ) (test : ℕ → Bool) (k : ℕ) → all_below n test ≡ true → k < n → test k ≡ true
unfolding all_below
all_below-at zero test k all within = absurd (omega arith)
all_below-at (suc n) test k all within =
    let parts = and_parts (test n) (all_below n test) all in
    elim (cases_lt k n) [
      | inl before ↦ all_below-at n test k parts.1 before
      | inr last ↦ (let same : k ≡ n = omega arith in rw same parts.0)
    ]

le_of : (m n : ℕ) → nat_le m n ≡ true → m ≤ n
le_of m n test = grind (arith, nat_tests)

mark_fits : Option ℕ → ℕ → Bool
mark_fits None width = true
mark_fits (Some mark) width = nat_lt mark (256 ^ width)

fits : ℕ → Bool
fits field =
    let place = place_of field in
    nat_le 4 place.offset && nat_le (end_of place) record_size && mark_fits place.mark (width_of place.kind)
    && (nat_le (end_of place) 42 || nat_le 43 place.offset)

all_fit : all_below field_count fits ≡ true
unfolding all_below fits mark_fits places field_places
all_fit = refl

parts_of : (a b c d : Bool) → (a && b && c && d) ≡ true → (a ≡ true) × (b ≡ true) × (c ≡ true) × (d ≡ true)
parts_of true true true d all = (refl, refl, refl, all)
parts_of true true false d all = absurd (false≢true all)
parts_of true false c d all = absurd (false≢true all)
parts_of false b c d all = absurd (false≢true all)

mark_raw : (mark : Option ℕ) (width : ℕ) → mark_fits mark width ≡ true → ForSome mark (λ raw. raw < 256 ^ width)
unfolding mark_fits
mark_raw None width fit raw is = cc
mark_raw (Some mark) width fit raw is =
    let small : mark < 256 ^ width = grind (arith, nat_tests) in
    let same : mark ≡ raw = cc in
    let P : ℕ → Type 0 = λ n. n < 256 ^ width in subst P same small

fit_parts : (field : ℕ) → field < field_count → let place = place_of field in
    (nat_le 4 place.offset ≡ true) × (nat_le (end_of place) record_size ≡ true) × (mark_fits place.mark (width_of place.kind) ≡ true)
    × ((nat_le (end_of place) 42 || nat_le 43 place.offset) ≡ true)
unfolding fits
fit_parts field within = parts_of _ _ _ _ (all_below-at field_count fits field all_fit within)

-- the places of the table lie within a record
pub place_is : (field : ℕ) → field < field_count → IsPlace (place_of field)
place_is field within =
    let parts = fit_parts field within in
    record { from = le_of _ _ parts.0; to = le_of _ _ parts.1; mark = mark_raw (place_of field).mark (width_of (place_of field).kind) parts.2 }

pub or_parts : (a b : Bool) → (a || b) ≡ true → (a ≡ true) ⊎ (b ≡ true)
or_parts true b any = inl refl
or_parts false b any = inr any

-- and not over the byte of the revision
pub beside_revision : (field : ℕ) → field < field_count → (end_of (place_of field) ≤ 42) ⊎ (43 ≤ (place_of field).offset)
beside_revision field within =
    elim (or_parts _ _ (fit_parts field within).3) [
      | inl before ↦ inl (le_of _ _ before)
      | inr after ↦ inr (le_of _ _ after)
    ]

-- a read of the table at any default
pub place_at : (field : ℕ) (d : Place) → field < field_count → get_or places field d ≡ place_of field
unfolding places field_places
place_at field d within = get_or_default places field d (place 0 Byte None) within

follows : ℕ → ℕ → Bool
follows later earlier = nat_le (end_of (place_of earlier)) (place_of later).offset

all_follow : all_below field_count (λ later. all_below later (follows later)) ≡ true
unfolding all_below follows places field_places
all_follow = refl

-- a place ends where a later one begins, or before it
pub ends_before : (earlier later : ℕ) → earlier < later → later < field_count → end_of (place_of earlier) ≤ (place_of later).offset
unfolding follows
ends_before earlier later before within =
    let test = all_below-at later (follows later) earlier (all_below-at field_count (λ l. all_below l (follows l)) later all_follow within) before in
    grind (arith, nat_tests)
