-- What a record says.
use Rattle.std.specs.Prelude.{ℕ, ℤ, ◌==◌, Bool, if◌then◌else◌, List, map, slice_index, Some, None}
use Rattle.std.specs.List.{list_all}
use Rattle.std.specs.declared.option.Option.{Option}
use Rattle.station_base.specs.declared.row.Row.{Row}
use Rattle.station_base.specs.CivilMinute.{CivilMinute}
use Rattle.station_base.specs.Stamp.{stamp_of_words}
use Rattle.archive_record.specs.declared.record_read.RecordRead.{RecordRead}
use Rattle.archive_record.specs.declared.record_read.RecordRead.TheVariants.{Row as ReadRow, Empty}
use Rattle.archive_record.specs.declared.record_read.RecordRead.TheVariants.{OtherRevision, BadStamp}
use Rattle.archive_record.specs.Kind.{word_at}
use Rattle.archive_record.specs.Place.{value_in}
use Rattle.archive_record.specs.Table.{places}

-- a slot that was never written
abbrev pub is_unwritten : List ℕ → Bool
is_unwritten bytes = list_all (λ byte. byte == 255) bytes

-- the stamp that the first two words name, if they name one
abbrev pub stamp_in : List ℕ → Option CivilMinute
stamp_in bytes = stamp_of_words (word_at bytes 0) (word_at bytes 2)

-- what a record tells of each field
abbrev pub record_values : List ℕ → List (Option ℤ)
record_values bytes = map (value_in bytes) places

-- the row of a record of this stamp
abbrev pub row_of_record : List ℕ → ℕ → CivilMinute → Row
row_of_record bytes interval stamp =
    record { stamp = stamp; interval = interval; values = record_values bytes; limited = 0 }

-- a record of revision B, whose words may name no stamp
abbrev pub dated : List ℕ → ℕ → Option CivilMinute → RecordRead
dated bytes interval None = BadStamp (word_at bytes 0) (word_at bytes 2)
dated bytes interval (Some stamp) = ReadRow (row_of_record bytes interval stamp)

-- What the 52 bytes of a slot say, if records are written at that interval (Davis serial manual). Byte 42 tells the
-- revision, and 0 is revision B.
unfoldable pub reading : List ℕ → ℕ → RecordRead
reading bytes interval =
    if is_unwritten bytes then Empty
    else if slice_index bytes 42 == 0 then dated bytes interval (stamp_in bytes)
    else OtherRevision (slice_index bytes 42)
