-- When a slot is well-formed, by the table of its parts.
use Rattle.std.specs.Prelude.{ℕ, ◌≡◌, ◌+◌, ◌*◌, ◌<◌, ◌^◌, ◌==◌, IsTrue, IsSome, List, drop, slice_index}
use Rattle.std.specs.Int.{bit_at}
use Rattle.station_base.specs.FieldSet.{is_member}
use Rattle.station_base.specs.Period.{IsPeriod}
use Rattle.row_slot.specs.Values.{signed_number_in, is_allowed}
use Rattle.row_slot.specs.Slot.{number_at, stamp_in_slot, interval_in, presence_in, limited_in}
use Rattle.station_base.specs.Fields.{field_count}

-- the kind is that of a row, the words name a stamp and the interval is a period, each value is allowed, a field that
-- limits made missing has none, and all else is 0
pub record IsWellFormed (slot : List ℕ) : Type 0 where
  pub gate : slice_index slot 0 ≡ 0
  pub kind : slice_index slot 1 ≡ 1
  pub batch : number_at 2 2 slot ≡ 0
  pub stamp : IsSome (stamp_in_slot slot)
  pub interval : IsPeriod (interval_in slot)
  pub spare : number_at 2 10 slot ≡ 0
  pub presence : presence_in slot < 2 ^ field_count
  pub values : (field : ℕ) → field < field_count
      → IsTrue (is_allowed (bit_at (presence_in slot) field == 1) (signed_number_in (drop (20 + 4 * field) slot)))
  pub limited : limited_in slot < 2 ^ field_count
  pub missing : (field : ℕ) → field < field_count
      → IsTrue (is_member (limited_in slot) field) → bit_at (presence_in slot) field ≡ 0
