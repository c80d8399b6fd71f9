-- What a slot says by its kind, with the values of a record.
use Rattle.std.specs.Prelude.{ℕ, List}
use Rattle.archive_record.specs.declared.record_read.RecordRead.{RecordRead}
use Rattle.archive_record.specs.declared.record_read.RecordRead.TheVariants as reads
use Rattle.archive_record.specs.declared.record_read.SlotKind.{SlotKind}
use Rattle.archive_record.specs.declared.record_read.SlotKind.TheVariants as kinds
use Rattle.archive_record.specs.Reading.{row_of_record}

abbrev pub reading_of : SlotKind → List ℕ → ℕ → RecordRead
reading_of (kinds.Record stamp) bytes interval = reads.Row (row_of_record bytes interval stamp)
reading_of kinds.Empty bytes interval = reads.Empty
reading_of (kinds.OtherRevision revision) bytes interval = reads.OtherRevision revision
reading_of (kinds.BadStamp date time) bytes interval = reads.BadStamp date time
