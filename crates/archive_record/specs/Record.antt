-- Records that read as rows.
use Rattle.std.specs.Prelude.{ℕ, ℤ, pos, ◌≡◌, Bool, true, false, List, length, map, Some, None}
use Rattle.std.specs.declared.option.Option.{Option}
use Rattle.causes.specs.Lists.{AreBytes}
use Rattle.station_base.specs.declared.row.Row.{Row}
use Rattle.station_base.specs.CivilMinute.{first_minute}
use Rattle.archive_record.specs.Table.{places}
use Rattle.archive_record.specs.declared.record_read.RecordRead.{RecordRead}
use Rattle.archive_record.specs.declared.record_read.RecordRead.TheVariants.{Row as ReadRow, Empty}
use Rattle.archive_record.specs.declared.record_read.RecordRead.TheVariants.{OtherRevision, BadStamp}
use Rattle.archive_record.specs.Reading.{reading}
use Rattle.archive_record.specs.Place.{record_size}

-- the reading is a row
abbrev pub IsRow : RecordRead → Type 0
IsRow (ReadRow row) = Unit {0}
IsRow Empty = ⊥
IsRow (OtherRevision revision) = ⊥
IsRow (BadStamp date time) = ⊥

-- whether the reading is a row
abbrev pub is_row : RecordRead → Bool
is_row (ReadRow row) = true
is_row other = false

-- a fact of the row that was read, if one was
abbrev pub IfRow : RecordRead → (Row → Type 0) → Type 0
IfRow (ReadRow row) P = P row
IfRow Empty P = Unit {0}
IfRow (OtherRevision revision) P = Unit {0}
IfRow (BadStamp date time) P = Unit {0}

-- the bytes read as a row, at whatever interval, for which 1 stands here
abbrev pub ReadsAsRow : List ℕ → Type 0
ReadsAsRow bytes = IsRow (reading bytes 1)

-- whether the bytes read as a row, at whatever interval, for which 1 stands here
abbrev pub reads_as_row : List ℕ → Bool
reads_as_row bytes = is_row (reading bytes 1)

-- no value, where a place has a mark to tell that, and else 0
abbrev pub unmeasured : Option ℕ → Option ℤ
unmeasured None = Some (pos 0)
unmeasured (Some mark) = None

-- the row of the first minute with as few values as a record can tell
abbrev pub unmeasured_row : Row
unmeasured_row =
    record { stamp = first_minute; interval = 1; values = map (λ place. unmeasured place.mark) places; limited = 0 }

-- the bytes of a record
pub record IsRecord (bytes : List ℕ) : Type 0 where
  pub long : length bytes ≡ record_size
  pub small : AreBytes bytes
