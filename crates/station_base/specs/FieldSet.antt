-- Some of the fields, as the bits of a number: bit f is 1 for field f.
use Rattle.std.specs.Prelude.{ℕ, ℤ, ◌^◌, ◌==◌, ◌&&◌, Bool, IsTrue, not, nat_lt, is_some, List, slice_index_or, None}
use Rattle.std.specs.declared.option.Option.{Option}
use Rattle.std.specs.Int.{bit_at}
use Rattle.std.specs.List.{list_all, range_with_len}
use Rattle.station_base.specs.Fields.{field_count}

-- the field of that number is one of them
abbrev pub is_member : ℕ → ℕ → Bool
is_member bits field = bit_at bits field == 1

-- the field of that number has a value
abbrev pub has_value : List (Option ℤ) → ℕ → Bool
has_value values field = is_some (slice_index_or values field None)

-- no bit from 37 on is 1, and none of a field that has a value
unfoldable pub are_missing : ℕ → List (Option ℤ) → Bool
are_missing bits values =
    nat_lt bits (2 ^ field_count)
    && list_all (λ field. not (is_member bits field && has_value values field)) (range_with_len 0 field_count)

-- the fields that limits made missing are fields without a value
abbrev pub AreMissing : ℕ → List (Option ℤ) → Type 0
AreMissing bits values = IsTrue (are_missing bits values)
