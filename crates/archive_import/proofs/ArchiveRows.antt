-- The rows of an archive, as lines.
use Rattle.std.proofs.Common.{◌≡◌, ℕ, Bool, true, List, [], ◌∷◌, ◌++◌, map, Option, Some, None, Ok, refl, ap, subst}
use Rattle.std.specs.Prelude.{flat_map, ◌&&◌, ◌==◌}
use Rattle.std.proofs.lemmas.Bool.{and_parts}
use Rattle.gated_log.specs.Log.{LogOf, log_of}
use Rattle.gated_log.specs.Log as log
use Rattle.gated_log.specs.Version.{version_of}
use Rattle.station_base.specs.RowLine.{row_line}
use Rattle.station_base.specs.declared.row.Row.{Row}
use Rattle.row_slot.specs.Slot.{row_in_slot}
use Rattle.packed_rows.specs.Closing.{begins_day, closings}
use Rattle.packed_rows.specs.Rising.{RowsRiseAfter, last_row_stamp, rows_rise, stamp_exceeds}
use Rattle.packed_rows.specs.Rows.{as_read, holds, is_right, rows_of, rows_of_log, rows_with_row, shown_with}
use Rattle.packed_rows.proofs.RowLaws.{AreRight, from_holds, rise_join, rise_tells, rows_to}
use Rattle.row_text.specs.IsLineRow.{IsLineRow}
use Rattle.row_text.specs.RowsOfText.{AreLineRows, rows_of_text}
use Rattle.row_text.proofs.TextBack.{text_read_back}
use Rattle.archive_import.specs.Importing.{rows_to_import}
use Rattle.archive_import.proofs.SlotRows.{line_row}

lines_push : (rows : List Row) (row : Row) → AreLineRows rows → IsLineRow row → AreLineRows (rows ++ row ∷ [])
lines_push [] row are is = (is, tt)
lines_push (first ∷ rows) row are is = (are.0, lines_push rows row are.1 is)

lines_with : (rows : List Row) (slot : List ℕ) (found : Option Row) → row_in_slot slot ≡ found → AreLineRows rows → AreLineRows (rows_with_row rows found)
lines_with rows slot None is are = are
lines_with rows slot (Some row) is are = lines_push rows row are (line_row slot row is)

-- each row that slots hold has a line
lines_to : (rows : List Row) (slots : List (List ℕ)) → AreLineRows rows → AreLineRows (rows_to rows slots)
lines_to rows [] are = are
lines_to rows (slot ∷ slots) are = lines_to (rows_with_row rows (row_in_slot slot)) slots (lines_with rows slot (row_in_slot slot) refl are)

rise_with : (rows : List Row) (shown : ℕ) (slot : List ℕ) (found : Option Row) → is_right rows shown slot found ≡ true → rows_rise None rows ≡ true
    → rows_rise None (rows_with_row rows found) ≡ true
rise_with rows shown slot None right up = up
rise_with rows shown slot (Some row) right up =
    let later = (and_parts (stamp_exceeds (last_row_stamp rows) row.stamp) (shown == closings (begins_day (last_row_stamp rows) row.stamp)) right).0 in
    rise_join None rows (row ∷ []) up (ap (λ (b : Bool). b && true) later)

-- and their stamps rise
rise_to : (rows : List Row) (shown : ℕ) (slots : List (List ℕ)) → AreRight rows shown slots → rows_rise None rows ≡ true → rows_rise None (rows_to rows slots) ≡ true
rise_to rows shown [] right up = up
rise_to rows shown (slot ∷ slots) right up =
    rise_to (rows_with_row rows (row_in_slot slot)) (shown_with shown (row_in_slot slot)) slots right.1 (rise_with rows shown slot (row_in_slot slot) right.0 up)

found_rows : (image : List ℕ) (rows : List Row) (found : LogOf) → rows_of_log (version_of image) found ≡ holds rows → RowsRiseAfter None rows × AreLineRows rows
found_rows image rows (log.holds slots) is =
    let read = map (as_read (version_of image)) slots in
    let hold = from_holds [] 0 0 (map (as_read (version_of image)) slots) rows is in
    let P : List Row → Type 0 = λ held. RowsRiseAfter None held × AreLineRows held in
    subst P hold.rows_are (rise_tells None (rows_to [] read) (rise_to [] 0 read hold.right refl), lines_to [] read tt)
found_rows image rows log.not_archive is = absurd cc
found_rows image rows (log.damaged place) is = absurd cc

pub archive_text : (image : List ℕ) (rows : List Row) → rows_of image ≡ holds rows → rows_of_text (flat_map row_line rows) ≡ Ok rows
unfolding rows_of
archive_text image rows is =
    let are = found_rows image rows (log_of image) is in
    text_read_back (flat_map row_line rows) rows (refl, are.0, are.1)

-- an archive of no rows gets all rows
pub all_rows : (rows : List Row) → rows_to_import [] rows ≡ rows
all_rows [] = refl
all_rows (row ∷ rows) = ap (λ (others : List Row). row ∷ others) (all_rows rows)
