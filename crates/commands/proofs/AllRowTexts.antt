-- The report of all rows of an archive is their text, and what is imported into an archive without rows.
use Rattle.std.proofs.Common.{◌≡◌, ℕ, ℤ, pos, Bool, true, List, [], ◌∷◌, ◌++◌, Ok, map, refl, sym, ap, subst, ◌∙◌, rules}
use Rattle.std.specs.Prelude.{filter, flat_map, int_le, ◌&&◌, ◌≤ℤ◌}
use Rattle.std.specs.declared.result.Result.{Result}
use Rattle.archive_import.specs.Importing.{IsImported, rows_to_import}
use Rattle.archive_import.specs.Texts.{rows_told, text_rows}
use Rattle.archive_import.proofs.ArchiveRows.{all_rows, archive_text}
use Rattle.disk_model.specs.Medium.{Medium}
use Rattle.packed_rows.specs.Days.{is_within}
use Rattle.packed_rows.specs.Rows.{holds, rows_of}
use Rattle.row_text.specs.IsLineRow.{IsLineRow}
use Rattle.row_text.specs.RowsOfText.{AreLineRows, rows_of_text}
use Rattle.row_text.specs.declared.bad_line.BadLine.{BadLine}
use Rattle.row_text.proofs.TextWritten.{text_is}
use Rattle.station_base.specs.CivilMinute.{archive_day_of}
use Rattle.station_base.specs.RowLine.{row_line}
use Rattle.station_base.specs.declared.row.Row.{Row}
use Rattle.station_base.proofs.Civil.{archive_day_within}
use Rattle.weather_book.specs.Stands.{ReadsRows}
use Rattle.commands.specs.AllRows.{ReportsAs, all_rows_text, wanting_all_rows}

at_most : (a b : ℤ) → a ≤ℤ b → int_le a b ≡ true
at_most a b is = search rules

both : (one other : Bool) → one ≡ true → other ≡ true → (one && other) ≡ true
both true true is too = refl
both one other is too = cc

-- a row that has a line is one of all days
within_all : (row : Row) → IsLineRow row → is_within wanting_all_rows.first wanting_all_rows.last row ≡ true
within_all row is =
    let day = archive_day_within row.stamp is.stamp in
    both (int_le (pos 10956) (pos (archive_day_of row.stamp))) (int_le (pos (archive_day_of row.stamp)) (pos 57707))
    (at_most (pos 10956) (pos (archive_day_of row.stamp)) day.0) (at_most (pos (archive_day_of row.stamp)) (pos 57707) day.1)

all_within : (rows : List Row) → AreLineRows rows → filter (is_within wanting_all_rows.first wanting_all_rows.last) rows ≡ rows
all_within [] are = refl
all_within (row ∷ rows) are = rw (within_all row are.0) (ap (λ (more : List Row). row ∷ more) (all_within rows are.1))

-- lines one behind another
joined : (rows : List Row) → flat_map (λ line. line) (map row_line rows) ≡ flat_map row_line rows
joined [] = refl
joined (row ∷ rows) = ap (λ (more : List ℕ). row_line row ++ more) (joined rows)

-- a report of all rows that have lines is these lines
report_is : (rows : List Row) → AreLineRows rows → all_rows_text rows ≡ flat_map row_line rows
report_is rows are = ap (λ (kept : List Row). flat_map (λ line. line) (map row_line kept)) (all_within rows are) ∙ joined rows

-- it is read as the rows of the archive
pub report_read : (image : List ℕ) (rows : List Row) → rows_of image ≡ holds rows → rows_of_text (all_rows_text rows) ≡ Ok rows
report_read image rows is =
    let text = archive_text image rows is in
    ap (λ (lines : List ℕ). rows_of_text lines) (report_is rows (text_is (flat_map row_line rows) rows text).2) ∙ text

-- and a text of rows is the report of them
text_reported : (text : List ℕ) (rows : List Row) → rows_of_text text ≡ Ok rows → all_rows_text rows ≡ text
text_reported text rows read = let is = text_is text rows read in report_is rows is.2 ∙ sym is.0

-- an archive without rows, into which a text was imported, has just its rows
into_none : {D : Type 0} (medium : Medium D) (text : List ℕ) (rows : List Row) (to : List ℕ) (disk : D) → rows_of_text text ≡ Ok rows
    → rows_of to ≡ holds [] → IsImported medium (text_rows text) disk to → ReadsRows medium disk rows
into_none medium text rows to disk read none is =
    let held : holds is.mine ≡ holds [] = sym is.held_them ∙ none in
    let mine : is.mine ≡ [] = cc in
    let told : text_rows text ≡ rows = ap (λ (judged : Result (List Row) BadLine). rows_told judged) read in
    subst (ReadsRows medium disk)
    (ap (λ (some : List Row). some ++ rows_to_import some (text_rows text)) mine ∙ ap (λ (all : List Row). rows_to_import [] all) told ∙ all_rows rows)
    is.reads

pub report_imported : {D : Type 0} (medium : Medium D) (image : List ℕ) (rows : List Row) (to : List ℕ) (disk : D) → rows_of image ≡ holds rows
    → rows_of to ≡ holds [] → IsImported medium (text_rows (all_rows_text rows)) disk to → ReadsRows medium disk rows
report_imported medium image rows to disk is none did = into_none medium (all_rows_text rows) rows to disk (report_read image rows is) none did

pub import_reported : {D : Type 0} (medium : Medium D) (text : List ℕ) (rows : List Row) (to : List ℕ) (disk : D) → rows_of_text text ≡ Ok rows
    → rows_of to ≡ holds [] → IsImported medium (text_rows text) disk to → ReportsAs medium disk text
import_reported medium text rows to disk read none did =
    (rows, into_none medium text rows to disk read none did, text_reported text rows read)
