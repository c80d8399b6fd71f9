-- Values that were read place by place.
use Rattle.std.proofs.Common.{◌≡◌, ◌≢◌, ℕ, ℤ, ◌+◌, ◌<◌, List, length, set, get_or, map, Option, None, sym, ◌∙◌, arith, get_or-set_other, get_or-set_same, below_more}
use Rattle.std.proofs.lemmas.List.{ext_get_or, get_or-map}
use Rattle.archive_record.specs.declared.kind.Kind.TheVariants.{Byte}
use Rattle.archive_record.specs.Place.{value_in}
use Rattle.archive_record.specs.Table.{place, field_places, places, place_of}
use Rattle.station_base.specs.Fields.{field_count}

-- one more value
pub values_more : (values : List (Option ℤ)) (field : ℕ) (value : Option ℤ) (f : ℕ → Option ℤ) → field < length values → value ≡ f field →
    ((k : ℕ) → k < field → get_or values k None ≡ f k) → (k : ℕ) → k < field + 1 → get_or (set values field value) k None ≡ f k
values_more values field value f within is before =
    below_more _ _
    (λ k h. let other : k ≢ field = omega arith in rw get_or-set_other (before k h))
    (rw get_or-set_same is)

-- all of them
pub values_all : (values : List (Option ℤ)) (bytes : List ℕ) → length values ≡ field_count →
    ((k : ℕ) → k < field_count → get_or values k None ≡ value_in bytes (place_of k)) → values ≡ map (value_in bytes) places
unfolding places field_places
values_all values bytes long each =
    ext_get_or None values (map (value_in bytes) places) long
    (λ k h. each k (omega arith) ∙ sym (get_or-map (value_in bytes) places k (place 0 Byte None) None (omega arith)))

-- one of them
pub value_of_field : (bytes : List ℕ) (field : ℕ) → field < field_count → get_or (map (value_in bytes) places) field None ≡ value_in bytes (place_of field)
unfolding places field_places
value_of_field bytes field within = get_or-map (value_in bytes) places field (place 0 Byte None) None within
