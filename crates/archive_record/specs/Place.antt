-- Where a field stands in a record, and what its number tells.
use Rattle.std.specs.Prelude.{ℕ, ℤ, ◌≢◌, ◌+◌, ◌≤◌, ◌==◌, Bool, false, int_le, not}
use Rattle.std.specs.Prelude.{◌&&◌, if◌then◌else◌, IsSome, is_some, List, Some, None}
use Rattle.std.specs.Ordering.{int_eq}
use Rattle.std.specs.Option.{ForSome}
use Rattle.std.specs.declared.option.Option.{Option}
use Rattle.archive_record.specs.declared.place.Place.{Place}
use Rattle.archive_record.specs.Kind.{width_of, IsRaw, value_of_kind, least_of_kind, greatest_of_kind, HasValue, raw_at}

-- the number is the mark of a missing value
abbrev pub is_mark : Option ℕ → ℕ → Bool
is_mark None raw = false
is_mark (Some mark) raw = raw == mark

-- what a number tells at a place: nothing where it is the mark, and else its value
abbrev pub told_value : Place → ℕ → Option ℤ
told_value place raw = if is_mark place.mark raw then None else Some (value_of_kind place.kind raw)

-- what a record tells at a place
abbrev pub value_in : List ℕ → Place → Option ℤ
value_in bytes place = told_value place (raw_at bytes place.kind place.offset)

-- a place can hold a value that its kind has and that is not its mark, and nothing only where it has a mark
abbrev pub CanHold : Place → Option ℤ → Type 0
CanHold place None = IsSome place.mark
CanHold place (Some value) =
    HasValue place.kind value × ForSome place.mark (λ mark. value ≢ value_of_kind place.kind mark)

-- the value is what the mark, where there is one, would mean
abbrev pub means_missing : Place → ℤ → Option ℕ → Bool
means_missing place value None = false
means_missing place value (Some mark) = int_eq value (value_of_kind place.kind mark)

-- `CanHold` as a test
abbrev pub can_hold : Place → Option ℤ → Bool
can_hold place None = is_some place.mark
can_hold place (Some value) =
    int_le (least_of_kind place.kind) value && int_le value (greatest_of_kind place.kind)
    && not (means_missing place value place.mark)

-- the bytes of a record (Davis serial manual)
abbrev pub record_size : ℕ
record_size = 52

-- a place within a record, behind the stamp, whose mark has room in it
pub record IsPlace (place : Place) : Type 0 where
  pub from : 4 ≤ place.offset
  pub to : place.offset + width_of place.kind ≤ record_size
  pub mark : ForSome place.mark (IsRaw place.kind)
