-- What the reading of a slot tells.
use Rattle.std.specs.Prelude.{◌≡◌, ℕ, true, false, List}
use Rattle.archive_record.specs.Record.{reads_as_row}
use Rattle.dmpaft_pump.specs.declared.slot.SlotRead.{SlotRead}
use Rattle.dmpaft_pump.specs.declared.slot.SlotRead.TheVariants as slot_read
use Rattle.dmpaft_pump.specs.Slot.{is_skipped}

-- what a slot is read as
abbrev pub TellsSlot : List ℕ → SlotRead → Type 0
TellsSlot bytes (slot_read.Record row) = (reads_as_row bytes ≡ true) × (is_skipped bytes ≡ false) × (row ≡ bytes)
TellsSlot bytes slot_read.Empty = (reads_as_row bytes ≡ false) × (is_skipped bytes ≡ false)
TellsSlot bytes slot_read.Skipped = (reads_as_row bytes ≡ false) × (is_skipped bytes ≡ true)
