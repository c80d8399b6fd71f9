-- A record is its stamp, its revision and the numbers of its fields, and no byte more.
use Rattle.std.proofs.Common.{◌≡◌, ℕ, zero, suc, ◌<◌, ◌≤◌, ◌⊎◌, ◌&&◌, ◌||◌, Bool, true, cond, List, length, get_or, slice_index, None, refl, sym, ◌∙◌, ap, arith, inl, inr, nat_le, nat_lt, nat_eq}
use Rattle.std.proofs.lemmas.Bool.{and_parts}
use Rattle.std.proofs.lemmas.Bool.Decides.{nat_tests}
use Rattle.std.proofs.lemmas.List.{ext_get_or, get_or-map}
use Rattle.archive_record.specs.declared.kind.Kind.TheVariants.{Byte}
use Rattle.archive_record.specs.Kind.{word_at}
use Rattle.archive_record.specs.Place.{value_in, record_size}
use Rattle.archive_record.specs.Reading.{record_values}
use Rattle.archive_record.specs.Record.{IsRecord}
use Rattle.archive_record.specs.Table.{place, field_places, places, place_of}
use Rattle.archive_record.proofs.Once.{told_once, raw_small, raw_once, word_once}
use Rattle.archive_record.proofs.Tiles.{all_below, all_below-at, or_parts, end_of}
use Rattle.station_base.specs.Fields.{field_count}

-- the field whose number the byte is of, by search from the last
owner : ℕ → ℕ → ℕ
owner zero i = field_count
owner (suc field) i = cond (nat_le (place_of field).offset i && nat_lt i (end_of (place_of field))) field (owner field i)

-- a byte of the stamp or the revision, or of a field
covers : ℕ → Bool
covers i =
    let field = owner field_count i in
    nat_lt i 4 || (nat_eq i 42 || (nat_lt field field_count && (nat_le (place_of field).offset i && nat_lt i (end_of (place_of field)))))

all_covered : all_below record_size covers ≡ true
unfolding all_below covers owner places field_places
all_covered = refl

record IsOfField (i field : ℕ) : Type 0 where
  within : field < field_count
  from : (place_of field).offset ≤ i
  to : i < end_of (place_of field)

lt_of : (m n : ℕ) → nat_lt m n ≡ true → m < n
lt_of m n test = grind (arith, nat_tests)

le_of : (m n : ℕ) → nat_le m n ≡ true → m ≤ n
le_of m n test = grind (arith, nat_tests)

eq_of : (m n : ℕ) → nat_eq m n ≡ true → m ≡ n
eq_of m n test = grind (arith, nat_tests)

covered : (i : ℕ) → i < record_size → (i < 4) ⊎ ((i ≡ 42) ⊎ IsOfField i (owner field_count i))
unfolding covers
covered i within =
    elim (or_parts _ _ (all_below-at record_size covers i all_covered within)) [
      | inl stamp ↦ inl (lt_of i 4 stamp)
      | inr rest ↦ elim (or_parts _ _ rest) [
        | inl revision ↦ inr (inl (eq_of i 42 revision))
        | inr field ↦ (let parts = and_parts _ _ field in let ends = and_parts _ _ parts.1 in
            inr (inr (record { within = lt_of _ _ parts.0; from = le_of _ _ ends.0; to = lt_of _ _ ends.1 })))
      ]
    ]

halves : (i : ℕ) → (i < 2) ⊎ (2 ≤ i)
halves i = grind arith

-- what a record tells of a field
pub values_in-at : (bytes : List ℕ) (field : ℕ) → field < field_count → get_or (record_values bytes) field None ≡ value_in bytes (place_of field)
unfolding places field_places
values_in-at bytes field within = get_or-map (value_in bytes) places field (place 0 Byte None) None within

-- so two records that tell the same are the same
pub same_record : (a b : List ℕ) → IsRecord a → IsRecord b → word_at a 0 ≡ word_at b 0 → word_at a 2 ≡ word_at b 2 → slice_index a 42 ≡ slice_index b 42 →
    record_values a ≡ record_values b → a ≡ b
same_record a b a_is b_is date time revision values =
    ext_get_or 0 a b (a_is.long ∙ sym b_is.long) each
  where
    of_field : (i field : ℕ) → IsOfField i field → slice_index a i ≡ slice_index b i
    of_field i field is =
        let p = place_of field in
        let told = sym (values_in-at a field is.within) ∙ ap (λ vs. get_or vs field None) values ∙ values_in-at b field is.within in
        let raw = told_once p _ _ (raw_small a p.kind p.offset a_is.small) (raw_small b p.kind p.offset b_is.small) told in
        raw_once a b p.kind p.offset a_is.small b_is.small raw i is.from is.to

    of_stamp : (i : ℕ) → i < 4 → slice_index a i ≡ slice_index b i
    of_stamp i within =
        elim (halves i) [
          | inl low ↦ word_once a b 0 a_is.small b_is.small date i (omega arith) low
          | inr high ↦ word_once a b 2 a_is.small b_is.small time i high within
        ]

    each : (i : ℕ) → i < length a → get_or a i 0 ≡ get_or b i 0
    each i within =
        elim (covered i (omega (arith, a_is.long))) [
          | inl stamp ↦ of_stamp i stamp
          | inr (inl revision_at) ↦ rw revision_at revision
          | inr (inr field) ↦ of_field i (owner field_count i) field
        ]
