-- What is read as rows is their text.
use Rattle.std.proofs.Common.{◌≡◌, ℕ, ◌+◌, Bool, true, false, cond, List, [], ◌∷◌, ◌++◌, Option, Some, None, Result, Ok, Err, refl, sym, ap, ◌∙◌, append_assoc, subst}
use Rattle.std.specs.Prelude.{codes, flat_map}
use Rattle.std.specs.List.{slice_split, join_with_byte}
use Rattle.std.proofs.lemmas.List.Splits.{join_with_byte-slice_split}
use Rattle.station_base.specs.declared.row.Row.{Row}
use Rattle.station_base.specs.CivilMinute.{CivilMinute}
use Rattle.station_base.specs.LastStamp.{exceeds}
use Rattle.station_base.specs.RowLine.{row_line}
use Rattle.row_text.specs.declared.fault.RowFault.{RowFault}
use Rattle.row_text.specs.declared.bad_line.BadLine.{BadLine}
use Rattle.row_text.specs.declared.bad_line.LineFault.TheVariants.{NotAfter}
use Rattle.row_text.specs.RowOfLine.{row_of_line}
use Rattle.row_text.specs.RowsOfText.{is_line_feed, bad_line, row_following, onto_row, not_ended, row_then, rows_of_parts, rows_of_text, AreTextOf}
use Rattle.row_text.proofs.Written.{read_row_is, read_line_is}

ok_rows : (one other : List Row) → ◌≡◌ {A = Result (List Row) BadLine} (Ok one) (Ok other) → one ≡ other
ok_rows one other same = cc

-- the row of a line, and that its stamp exceeds the one before
after_is : (last : Option CivilMinute) (line : ℕ) (part : List ℕ) (row : Row) → row_following last line (row_of_line part) ≡ Ok row → (row_of_line part ≡ Ok row) × (exceeds last (Some row.stamp) ≡ true)
after_is last line part row is = go (row_of_line part) refl is
  where
    by_order : (other : Row) (order : Bool) → exceeds last (Some other.stamp) ≡ order → cond order (Ok other) (bad_line line NotAfter) ≡ Ok row → (other ≡ row) × (exceeds last (Some row.stamp) ≡ true)
    by_order other true order found = let same : other ≡ row = cc in (same, ap (λ (r : Row). exceeds last (Some r.stamp)) (sym same) ∙ order)
    by_order other false order found = cc

    go : (read : Result Row RowFault) → row_of_line part ≡ read → row_following last line read ≡ Ok row → (row_of_line part ≡ Ok row) × (exceeds last (Some row.stamp) ≡ true)
    go (Err fault) read found = cc
    go (Ok other) read found =
        let (same, order) = by_order other (exceeds last (Some other.stamp)) refl found in
        (read ∙ ap Ok same, order)

parts_are : (last : Option CivilMinute) (line : ℕ) (parts : List (List ℕ)) (rows : List Row) → rows_of_parts last line parts ≡ Ok rows → AreTextOf last rows (join_with_byte 10 parts)
unfolding rows_of_parts
parts_are last line [] rows read = let P : List Row → Type 0 = λ rs. AreTextOf last rs [] in subst P (ok_rows [] rows read) (refl, tt, tt)
parts_are last line ([] ∷ []) rows read = let P : List Row → Type 0 = λ rs. AreTextOf last rs [] in subst P (ok_rows [] rows read) (refl, tt, tt)
parts_are last line ((byte ∷ part) ∷ []) rows read = go (row_following last line (row_of_line (byte ∷ part))) read
  where
    go : (found : Result Row BadLine) → not_ended line found ≡ Ok rows → AreTextOf last rows (byte ∷ part)
    go (Ok row) is = cc
    go (Err fault) is = cc
parts_are last line (part ∷ next ∷ parts) rows read =
    go (λ stamp others is. parts_are stamp (line + 1) (next ∷ parts) others is) (row_following last line (row_of_line part)) refl
    (cases part next parts read)
  where
    cases : (p n : List ℕ) (ps : List (List ℕ)) → rows_of_parts last line (p ∷ n ∷ ps) ≡ Ok rows
        → row_then (row_following last line (row_of_line p)) (λ row. rows_of_parts (Some row.stamp) (line + 1) (n ∷ ps)) ≡ Ok rows
    cases [] n ps is = is
    cases (b ∷ p) n ps is = is

    behind : (row : Row) → row_of_line part ≡ Ok row → exceeds last (Some row.stamp) ≡ true
        → ((stamp : Option CivilMinute) (others : List Row) → rows_of_parts stamp (line + 1) (next ∷ parts) ≡ Ok others → AreTextOf stamp others (join_with_byte 10 (next ∷ parts)))
        → (found : Result (List Row) BadLine) → rows_of_parts (Some row.stamp) (line + 1) (next ∷ parts) ≡ found → onto_row row found ≡ Ok rows
        → AreTextOf last rows (part ++ 10 ∷ join_with_byte 10 (next ∷ parts))
    behind row line_is order ih (Err fault) is found = cc
    behind row line_is order ih (Ok others) is found =
        let (text, rise, each) = ih (Some row.stamp) others is in
        let P : List Row → Type 0 = λ rs. AreTextOf last rs (part ++ 10 ∷ join_with_byte 10 (next ∷ parts)) in
        let whole : part ++ 10 ∷ join_with_byte 10 (next ∷ parts) ≡ row_line row ++ flat_map row_line others =
        ap (λ (xs : List ℕ). part ++ 10 ∷ xs) text
        ∙ sym (append_assoc part (codes "\n") (flat_map row_line others))
        ∙ ap (λ (xs : List ℕ). xs ++ flat_map row_line others) (read_line_is part row line_is) in
        subst P (ok_rows (row ∷ others) rows found) (whole, (order, rise), (read_row_is part row line_is, each))

    go : ((stamp : Option CivilMinute) (others : List Row) → rows_of_parts stamp (line + 1) (next ∷ parts) ≡ Ok others → AreTextOf stamp others (join_with_byte 10 (next ∷ parts)))
        → (found : Result Row BadLine) → row_following last line (row_of_line part) ≡ found
        → row_then found (λ row. rows_of_parts (Some row.stamp) (line + 1) (next ∷ parts)) ≡ Ok rows → AreTextOf last rows (part ++ 10 ∷ join_with_byte 10 (next ∷ parts))
    go ih (Err fault) is found = cc
    go ih (Ok row) is found =
        let (line_is, order) = after_is last line part row is in
        behind row line_is order ih (rows_of_parts (Some row.stamp) (line + 1) (next ∷ parts)) refl found

pub text_is : (text : List ℕ) (rows : List Row) → rows_of_text text ≡ Ok rows → AreTextOf None rows text
unfolding rows_of_text
text_is text rows read =
    let P : List ℕ → Type 0 = AreTextOf None rows in
    subst P (join_with_byte-slice_split 10 text) (parts_are None 1 (slice_split is_line_feed text) rows read)
