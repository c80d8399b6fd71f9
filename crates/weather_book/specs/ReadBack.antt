-- Rows as they are read back of a file, whatever it holds by then.
use Rattle.std.specs.Prelude.{ℕ, zero, suc, ◌+◌, ◌-◌, ◌*◌, List, [], ◌∷◌, drop, take}
use Rattle.std.specs.Option.{unwrap_or}
use Rattle.station_base.specs.declared.row.Row.{Row}
use Rattle.station_base.specs.RowLine.{blank_row}
use Rattle.row_slot.specs.Slot.{row_in_slot}
use Rattle.gated_log.specs.Log.{as_handed}
use Rattle.gated_log.specs.declared.version.Version.{Version}
use Rattle.gated_log.specs.Layout.{slot_size}
use Rattle.packed_rows.specs.Rows.{as_read, slot_total}

-- the row of a slot as its version reads it, its gate and the number of its batch's slots aside, and the default row of
-- a slot that is ill-formed
abbrev pub row_back : Version → List ℕ → Row
row_back version slot = unwrap_or (row_in_slot (as_read version (as_handed slot))) blank_row

-- slot n of the log of a file
abbrev pub slot_in : List ℕ → ℕ → List ℕ
slot_in file n = take slot_size (drop (slot_size * (n + 1)) file)

-- the rows of so many slots from number n on
abbrev pub rows_back : Version → List ℕ → ℕ → ℕ → List Row
rows_back version file n zero = []
rows_back version file n (suc count) = row_back version (slot_in file n) ∷ rows_back version file (n + 1) count

-- the number of the slot in which row n stands
abbrev pub slot_number : List Row → ℕ → ℕ
slot_number rows n = slot_total (take (n + 1) rows) - 1
