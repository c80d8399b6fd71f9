-- What stays where a number is written at its place.
use Rattle.std.proofs.Common.{◌≡◌, ℕ, ℤ, ◌+◌, ◌<◌, ◌≤◌, ◌⊎◌, List, get_or, slice_index, Option, None, ap, ◌∙◌, arith, inl, inr, below_more}
use Rattle.archive_record.specs.declared.place.Place.{Place}
use Rattle.archive_record.specs.Kind.{raw_at}
use Rattle.archive_record.specs.Place.{told_value, value_in}
use Rattle.archive_record.specs.Table.{place_of}
use Rattle.archive_record.proofs.Once.{raw_stays}
use Rattle.archive_record.proofs.Tiles.{end_of, ends_before, beside_revision, place_is}
use Rattle.station_base.specs.Fields.{field_count}

-- only the bytes of the place changed
abbrev pub ChangesOnly : Place → List ℕ → List ℕ → Type 0
ChangesOnly place old new = (i : ℕ) → (i < place.offset) ⊎ (end_of place ≤ i) → slice_index new i ≡ slice_index old i

-- one more value is told, and those before it still are
pub told_more : (old new : List ℕ) (values : List (Option ℤ)) (field raw : ℕ) → field < field_count → raw_at new (place_of field).kind (place_of field).offset ≡ raw →
    told_value (place_of field) raw ≡ get_or values field None → ChangesOnly (place_of field) old new →
    ((k : ℕ) → k < field → value_in old (place_of k) ≡ get_or values k None) → (k : ℕ) → k < field + 1 → value_in new (place_of k) ≡ get_or values k None
told_more old new values field raw within is tells only before =
    below_more _ _
    (λ k h.
    ap (told_value (place_of k)) (raw_stays new old (place_of k).kind (place_of k).offset (λ i from to. only i (inl (omega (arith, ends_before k field h within)))))
    ∙ before k h)
    (ap (told_value (place_of field)) is ∙ tells)

-- and so do the stamp and the revision
pub others_stay : (old new : List ℕ) (field : ℕ) → field < field_count → ChangesOnly (place_of field) old new → (i : ℕ) → (i < 4) ⊎ (i ≡ 42) → slice_index new i ≡ slice_index old i
others_stay old new field within only i (inl stamp) = only i (inl (omega (arith, (place_is field within).from)))
others_stay old new field within only i (inr revision) =
    elim (beside_revision field within) [
      | inl before ↦ only i (inr (omega arith))
      | inr after ↦ only i (inl (omega arith))
    ]
