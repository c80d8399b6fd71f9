-- What a book keeps of the end of its rows.
use Rattle.std.specs.Prelude.{ℕ, ◌≡◌, true, false, List, Some, None}
use Rattle.station_base.specs.declared.row.Row.{Row}
use Rattle.daily_summary.specs.Running.{running_summary}
use Rattle.daily_summary.specs.Summary.{summary_of}
use Rattle.packed_rows.specs.declared.tail.Tail.{Tail}
use Rattle.packed_rows.specs.declared.tail.Judged.{Judged}
use Rattle.packed_rows.specs.declared.tail.Judged.TheVariants.{Row as TheRow, Closing, Wrong}
use Rattle.packed_rows.specs.Closing.{last_day_rows}
use Rattle.packed_rows.specs.Rising.{rows_rise, last_row_stamp}
use Rattle.packed_rows.specs.Rows.{may_follow, is_closing, is_right}
use Rattle.row_slot.specs.Slot.{row_in_slot}

-- the stamp of the last of these rows, and the summary of its day
pub record EndsRows (tail : Tail) (rows : List Row) : Type 0 where
  pub rising : rows_rise None rows ≡ true
  pub last : tail.last ≡ last_row_stamp rows
  pub running : running_summary tail.running ≡ summary_of (last_day_rows rows)

-- what a slot is behind these rows and so many summary slots, and the row that was read from it
abbrev pub Judges : Judged → Row → List Row → ℕ → List ℕ → Type 0
Judges TheRow row rows shown slot = (row_in_slot slot ≡ Some row) × (may_follow rows shown row ≡ true)
Judges Closing row rows shown slot = (row_in_slot slot ≡ None) × (is_closing rows shown slot ≡ true)
Judges Wrong row rows shown slot = is_right rows shown slot (row_in_slot slot) ≡ false

-- a property that holds if the slot has a row that may stand there
abbrev pub OnRowJudged : Judged → Type 0 → Type 0
OnRowJudged TheRow p = p
OnRowJudged other p = Unit {0}
