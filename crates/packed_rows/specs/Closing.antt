-- The summary slots that close a day. The layout is this project's own.
use Rattle.std.specs.Prelude.{ℕ, ℤ, pos, ◌-◌, Bool, true, false, not, nat_eq, List, ◌∷◌, ◌++◌, replicate, map, Some}
use Rattle.std.specs.Prelude.{None}
use Rattle.std.specs.declared.option.Option.{Option}
use Rattle.std.specs.Int.{w32, cast_unsigned}
use Rattle.std.specs.List.{range_with_len}
use Rattle.byteorder.specs.Endian.{little_bytes}
use Rattle.station_base.specs.declared.row.Row.{Row}
use Rattle.station_base.specs.CivilMinute.{CivilMinute, archive_day_of}
use Rattle.daily_summary.specs.declared.summary.DaySummary.{DaySummary}
use Rattle.daily_summary.specs.Parts.{part_size, summary_part, part_count}
use Rattle.daily_summary.specs.Summary.{summary_of, rows_of_day}
use Rattle.gated_log.specs.Layout.{slot_size}
use Rattle.packed_rows.specs.Rising.{last_row_stamp}

-- the archive day of a stamp, in days since 1970-01-01
abbrev pub day_of_stamp : Option CivilMinute → ℤ
day_of_stamp None = pos 0
day_of_stamp (Some stamp) = pos (archive_day_of stamp)

-- the archive day of the last row
abbrev pub last_day : List Row → ℤ
last_day rows = day_of_stamp (last_row_stamp rows)

-- the rows of the last row's day
abbrev pub last_day_rows : List Row → List Row
last_day_rows rows = rows_of_day (last_day rows) rows

-- where the part of a summary begins in its slot
abbrev pub part_place : ℕ
part_place = 24

-- Part k of a stored summary: the slot of a closed gate, kind 2, no number of slots, the day, the number of the part,
-- three bytes 0, the rows of the day, eight bytes 0, the part itself, and bytes 0 up to the end of the slot.
unfoldable pub summary_slot : ℤ → ℕ → DaySummary → List ℕ
summary_slot day k s =
    0 ∷ 2 ∷ 0 ∷ 0 ∷ (little_bytes 4 (cast_unsigned w32 day) ++ (k ∷ 0 ∷ 0 ∷ 0 ∷ (little_bytes 4 s.rows ++ (replicate 8 0
    ++ (summary_part k s ++ replicate (slot_size - part_place - part_size) 0)))))

-- the slot k that closes the day of the last of these rows
abbrev pub closing_slot : List Row → ℕ → List ℕ
closing_slot rows k = summary_slot (last_day rows) k (summary_of (last_day_rows rows))

-- all thirteen slots that close the day of the last of these rows
abbrev pub closing_slots : List Row → List (List ℕ)
closing_slots rows = map (λ k. closing_slot rows k) (range_with_len 0 part_count)

-- a row of this stamp begins a later day than the last row's
abbrev pub begins_day : Option CivilMinute → CivilMinute → Bool
begins_day None stamp = false
begins_day (Some last) stamp = not (nat_eq (archive_day_of last) (archive_day_of stamp))

-- how many summary slots stand before a row, by whether it begins a later day
abbrev pub closings : Bool → ℕ
closings true = part_count
closings false = 0

-- the summary slots that stand before a row behind these rows
abbrev pub closing_before : List Row → Row → List (List ℕ)
closing_before rows row =
    map (λ k. closing_slot rows k) (range_with_len 0 (closings (begins_day (last_row_stamp rows) row.stamp)))
