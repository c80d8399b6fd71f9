-- Rows as they are written one behind another.
use Rattle.std.specs.Prelude.{◌≡◌, ℕ, ◌+◌, ◌<◌, List, [], ◌∷◌, ◌++◌, length, slice_get, slice_index_or, Some}
use Rattle.station_base.specs.declared.row.Row.{Row}
use Rattle.row_slot.specs.Slot.{slot_of, row_in_slot}
use Rattle.gated_log.specs.declared.version.Version.{Version}
use Rattle.gated_log.specs.Layout.{slot_size}
use Rattle.packed_rows.specs.Rows.{as_read}

-- slots, as one text of bytes
abbrev pub joined_slots : List (List ℕ) → List ℕ
joined_slots [] = []
joined_slots (slot ∷ slots) = slot ++ joined_slots slots

-- the row is what is read back of its slot
pub record IsReadBack (row : Row) : Type 0 where
  pub back : row_in_slot (slot_of row) ≡ Some row
  pub size : length (slot_of row) ≡ slot_size

-- each of these rows is what is read back of its slot
abbrev pub AreReadBack : List Row → Type 0
AreReadBack [] = Unit {0}
AreReadBack (row ∷ rows) = IsReadBack row × AreReadBack rows

-- the rows from number n on, so many, stand in the slots from a place on, as their version reads them
abbrev pub AreRowsAt : Version → List (List ℕ) → ℕ → List Row → ℕ → ℕ → Type 0
AreRowsAt version slots place rows n count =
    (k : ℕ) → k < count
    → (row : Row) × (slice_get rows (n + k) ≡ Some row)
    × (row_in_slot (as_read version (slice_index_or slots (place + k) [])) ≡ Some row)
