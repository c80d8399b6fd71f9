-- How large the values of a record are.
use Rattle.std.proofs.Common.{◌≡◌, ℕ, ℤ, pos, negsuc, ◌<◌, Bool, true, false, cond, List, All, Some, None, arith, ◌≤ℤ◌, subst, get_or, slice_index}
use Rattle.std.proofs.lemmas.Int.{ints}
use Rattle.std.proofs.lemmas.List.Elements.{All-map}
use Rattle.station_base.specs.RowLine.{IsValueWithin}
use Rattle.archive_record.specs.declared.kind.Kind.{Kind}
use Rattle.archive_record.specs.declared.kind.Kind.TheVariants.{SignedWord, Word, Byte, Degrees}
use Rattle.archive_record.specs.Kind.{HasValue, IsRaw, value_of_kind, raw_at}
use Rattle.archive_record.specs.Place.{is_mark, value_in}
use Rattle.archive_record.specs.Reading.{record_values}
use Rattle.archive_record.specs.Table.{places}
use Rattle.archive_record.proofs.Back.{has_value}
use Rattle.archive_record.proofs.Once.{raw_small}

kind_within : (kind : Kind) (value : ℤ) → HasValue kind value → (negsuc 65534 ≤ℤ value) × (value ≤ℤ pos 65535)
kind_within SignedWord value has = (omega (arith, ints), omega (arith, ints))
kind_within Word value has = (omega (arith, ints), omega (arith, ints))
kind_within Byte value has = (omega (arith, ints), omega (arith, ints))
kind_within Degrees value has = (omega (arith, ints), omega (arith, ints))

told_by : (kind : Kind) (raw : ℕ) (test : Bool) → IsRaw kind raw → IsValueWithin 65535 (cond test None (Some (value_of_kind kind raw)))
told_by kind raw true small x is = cc
told_by kind raw false small x is =
    let same : value_of_kind kind raw ≡ x = cc in
    let P : ℤ → Type 0 = HasValue kind in
    kind_within kind x (subst P same (has_value kind raw small))

-- each value that a record tells is within 65,535 either way
pub values_within : (bytes : List ℕ) → ((i : ℕ) → slice_index bytes i < 256) → All (IsValueWithin 65535) (record_values bytes)
values_within bytes small =
    All-map (IsValueWithin 65535) (value_in bytes) places (λ k d within.
    let place = get_or places k d in
    let raw = raw_at bytes place.kind place.offset in
    told_by place.kind raw (is_mark place.mark raw) (raw_small bytes place.kind place.offset small))
