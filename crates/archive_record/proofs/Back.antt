-- What was read can be written.
use Rattle.std.proofs.Common.{◌≡◌, ◌≢◌, ℕ, ℤ, Bool, true, false, cond, List, get_or, Option, Some, None, IsSome, refl, sym, ◌∙◌, ap, subst, arith}
use Rattle.std.specs.Option.{ForSome}
use Rattle.std.proofs.lemmas.Bool.Decides.{nat_tests}
use Rattle.std.proofs.lemmas.Bool.{false≢true}
use Rattle.std.proofs.lemmas.Int.{ints}
use Rattle.archive_record.specs.declared.kind.Kind.{Kind}
use Rattle.archive_record.specs.declared.kind.Kind.TheVariants.{SignedWord, Word, Byte, Degrees}
use Rattle.archive_record.specs.declared.place.Place.{Place}
use Rattle.archive_record.specs.Kind.{IsRaw, HasValue, value_of_kind, raw_at}
use Rattle.archive_record.specs.Place.{CanHold, IsPlace, is_mark, told_value}
use Rattle.archive_record.specs.Reading.{record_values}
use Rattle.archive_record.specs.Record.{IsRecord}
use Rattle.archive_record.specs.Table.{place_of}
use Rattle.archive_record.specs.Writing.{CanHoldAll}
use Rattle.archive_record.proofs.Cover.{values_in-at}
use Rattle.archive_record.proofs.Once.{raw_small, value_once}
use Rattle.archive_record.proofs.Tiles.{place_is}

-- a number means a value of its kind
pub has_value : (kind : Kind) (raw : ℕ) → IsRaw kind raw → HasValue kind (value_of_kind kind raw)
has_value SignedWord raw small = (omega (arith, ints), omega (arith, ints))
has_value Word raw small = (omega (arith, ints), omega (arith, ints))
has_value Byte raw small = (omega (arith, ints), omega (arith, ints))
has_value Degrees raw small = (omega (arith, ints), omega (arith, ints))

no_mark : (kind : Kind) (mark : Option ℕ) (raw : ℕ) → ForSome mark (IsRaw kind) → IsRaw kind raw → is_mark mark raw ≡ false → ForSome mark (λ m. value_of_kind kind raw ≢ value_of_kind kind m)
no_mark kind None raw mark_small small other m is same = cc
no_mark kind (Some mark) raw mark_small small other m is same =
    let at : mark ≡ m = cc in
    let equal : raw ≡ m = value_once kind raw m small (mark_small m is) same in
    grind (arith, nat_tests)

some_mark : (mark : Option ℕ) (raw : ℕ) → is_mark mark raw ≡ true → IsSome mark
some_mark None raw is = absurd (false≢true is)
some_mark (Some mark) raw is = refl

told_by : (place : Place) (raw : ℕ) (s : Bool) → ForSome place.mark (IsRaw place.kind) → IsRaw place.kind raw → is_mark place.mark raw ≡ s →
    CanHold place (cond s None (Some (value_of_kind place.kind raw)))
told_by place raw true mark_small small is = some_mark place.mark raw is
told_by place raw false mark_small small is = (has_value place.kind raw small, no_mark place.kind place.mark raw mark_small small is)

-- what a number tells at a place, the place can hold
told_can : (place : Place) (raw : ℕ) → IsPlace place → IsRaw place.kind raw → CanHold place (told_value place raw)
told_can place raw is small = told_by place raw (is_mark place.mark raw) is.mark small refl

-- so what a record tells can be written
pub told_can_all : (bytes : List ℕ) (values : List (Option ℤ)) → IsRecord bytes → record_values bytes ≡ values → CanHoldAll values
told_can_all bytes values record_is tells field within =
    let p = place_of field in
    let value : told_value p (raw_at bytes p.kind p.offset) ≡ get_or values field None = sym (values_in-at bytes field within) ∙ ap (λ vs. get_or vs field None) tells in
    let P : Option ℤ → Type 0 = CanHold p in
    subst P value (told_can p (raw_at bytes p.kind p.offset) (place_is field within) (raw_small bytes p.kind p.offset record_is.small))
