-- The rows that an archive file holds.
use Rattle.std.specs.Prelude.{ℕ, ◌+◌, ◌-◌, ◌*◌, ◌==◌, ◌&&◌, Bool, true, false, nat_lt}
use Rattle.std.specs.Prelude.{if◌then◌else◌, List, [], ◌∷◌, ◌++◌, length, map, Some, None}
use Rattle.std.specs.declared.option.Option.{Option}
use Rattle.std.specs.Str.{bytes_eq}
use Rattle.station_base.specs.declared.row.Row.{Row}
use Rattle.row_slot.specs.Slot.{slot_of, row_in_slot, limited_in}
use Rattle.gated_log.specs.Log.{LogOf, log_of, as_handed}
use Rattle.gated_log.specs.Log as log
use Rattle.gated_log.specs.Version.{version_of}
use Rattle.gated_log.specs.declared.version.Version.{Version}
use Rattle.gated_log.specs.declared.version.Version.TheVariants.{First, Second}
use Rattle.gated_log.specs.Layout.{slot_size}
use Rattle.packed_rows.specs.Closing.{closing_before, closing_slot, closings, begins_day}
use Rattle.packed_rows.specs.Days.{days_of}
use Rattle.packed_rows.specs.Rising.{stamp_exceeds, last_row_stamp}
use Rattle.daily_summary.specs.Parts.{part_count}

-- the rows of a file, or why it has none: it is no archive, or it is damaged at a place
pub data RowsOf : Type 0 where
  holds : List Row → RowsOf
  not_archive : RowsOf
  damaged : ℕ → RowsOf

-- A row may stand behind these rows and so many summary slots: its stamp rises, and where it begins a later day there
-- are thirteen, else none.
abbrev pub may_follow : List Row → ℕ → Row → Bool
may_follow rows shown row =
    stamp_exceeds (last_row_stamp rows) row.stamp && (shown == closings (begins_day (last_row_stamp rows) row.stamp))

-- the slot is the next of the thirteen that close the last row's day; gate and batch word are not tested
abbrev pub is_closing : List Row → ℕ → List ℕ → Bool
is_closing rows shown slot =
    nat_lt 0 (length rows) && nat_lt shown part_count && bytes_eq (as_handed slot) (closing_slot rows shown)

-- the slot may stand behind these rows and so many summary slots
abbrev pub is_right : List Row → ℕ → List ℕ → Option Row → Bool
is_right rows shown slot (Some row) = may_follow rows shown row
is_right rows shown slot None = is_closing rows shown slot

-- the rows behind this slot: a row is added, and a summary slot adds none
abbrev pub rows_with_row : List Row → Option Row → List Row
rows_with_row rows (Some row) = rows ++ row ∷ []
rows_with_row rows None = rows

-- how many summary slots stand behind the last row, with this slot
abbrev pub shown_with : ℕ → Option Row → ℕ
shown_with shown (Some row) = 0
shown_with shown None = shown + 1

-- what is behind a slot that is right; else slot n is damaged
abbrev pub slot_judged : Bool → ℕ → RowsOf → RowsOf
slot_judged true n more = more
slot_judged false n more = damaged (slot_size * (n + 1))

-- the rows at the end, at slot n, if no summary slots stand open there
abbrev pub rows_ended : List Row → ℕ → ℕ → RowsOf
rows_ended rows shown n = slot_judged (shown == 0) n (holds rows)

-- the rows of slots, each judged by the rows and the summary slots that stand before it; the first of them has number n
abbrev pub rows_from : List Row → ℕ → ℕ → List (List ℕ) → RowsOf
rows_from rows shown n [] = rows_ended rows shown n
rows_from rows shown n (slot ∷ slots) =
    slot_judged (is_right rows shown slot (row_in_slot slot)) n
    (rows_from (rows_with_row rows (row_in_slot slot)) (shown_with shown (row_in_slot slot)) (n + 1) slots)

-- a slot of the first version names no field that limits made missing: its last eight bytes are 0
abbrev pub is_known : Version → List ℕ → Bool
is_known First slot = limited_in slot == 0
is_known Second slot = true

-- a slot as its version reads it, and no bytes where it is none of that version
abbrev pub as_read : Version → List ℕ → List ℕ
as_read version slot = if is_known version slot then slot else []

-- the rows of the slots of a log of this version
abbrev pub rows_of_log : Version → LogOf → RowsOf
rows_of_log version (log.holds slots) = rows_from [] 0 0 (map (as_read version) slots)
rows_of_log version log.not_archive = not_archive
rows_of_log version (log.damaged place) = damaged place

-- the rows of an image; a broken chain is named before an ill-formed slot
unfoldable pub rows_of : List ℕ → RowsOf
rows_of image = rows_of_log (version_of image) (log_of image)

-- the slots in which rows are stored behind others: before the first row of a later day those that close the day before
abbrev pub slots_after : List Row → List Row → List (List ℕ)
slots_after before [] = []
slots_after before (row ∷ rows) = closing_before before row ++ slot_of row ∷ slots_after (before ++ row ∷ []) rows

-- the slots in which rows are stored
abbrev pub slots_of : List Row → List (List ℕ)
slots_of rows = slots_after [] rows

-- how many slots rows take: one each, and thirteen for each archive day but the last
abbrev pub slot_total : List Row → ℕ
slot_total rows = length rows + part_count * (length (days_of rows) - 1)
