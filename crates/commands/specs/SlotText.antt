-- The lines of the slots of a page.
use Rattle.std.specs.Prelude.{ℕ, ℤ, List, [], ◌++◌, Some, None, codes, slice_index_or}
use Rattle.std.specs.declared.option.Option.{Option}
use Rattle.station_base.specs.declared.row.Row.{Row}
use Rattle.station_base.specs.NumberText.{number_text, signed_text}
use Rattle.station_base.specs.RowLine.{row_line}
use Rattle.station_base.specs.Stamp.{stamp_text}
use Rattle.archive_record.specs.declared.record_read.RecordRead.{RecordRead}
use Rattle.archive_record.specs.declared.record_read.RecordRead.TheVariants as record_read
use Rattle.archive_record.specs.Reading.{reading}
use Rattle.quality.specs.Corrected.{corrected_row}
use Rattle.commands.specs.Style.{RowStyle, short, corrected, style_period}

-- a dash where it is missing
abbrev pub temperature_text : Option ℤ → List ℕ
temperature_text None = codes "-"
temperature_text (Some tenths) = signed_text tenths

-- where a slot stands, which is told where it holds no row
abbrev pub slot_place_text : ℕ → ℕ → List ℕ
slot_place_text page place = codes "page " ++ number_text page ++ codes " place " ++ number_text place

-- the outside temperature is field 0
abbrev pub row_text : RowStyle → Row → List ℕ
row_text short row =
    stamp_text row.stamp ++ codes " " ++ temperature_text (slice_index_or row.values 0 None) ++ codes "\n"
row_text (corrected settings) row = row_line (corrected_row settings row)

abbrev pub slot_text : RowStyle → ℕ → ℕ → RecordRead → List ℕ
slot_text style page place record_read.Empty = []
slot_text style page place (record_read.OtherRevision revision) =
    slot_place_text page place ++ codes " revision " ++ number_text revision ++ codes "\n"
slot_text style page place (record_read.BadStamp date time) =
    slot_place_text page place ++ codes " stamp " ++ number_text date ++ codes " " ++ number_text time ++ codes "\n"
slot_text style page place (record_read.Row row) = row_text style row

-- the line of a slot of a page, of which these are the bytes
abbrev pub slot_line : RowStyle → ℕ → ℕ → List ℕ → List ℕ
slot_line style page place bytes = slot_text style page place (reading bytes (style_period style))
