-- The text of rows is read as the rows.
use Rattle.std.proofs.Common.{◌≡◌, ℕ, ◌+◌, List, [], ◌∷◌, ◌++◌, Option, Some, None, Result, Ok, refl, sym, ap, ◌∙◌, arith, append_assoc}
use Rattle.std.specs.Prelude.{codes, flat_map}
use Rattle.std.specs.List.{slice_split}
use Rattle.std.proofs.lemmas.List.Splits.{slice_split_at, length-slice_split}
use Rattle.station_base.specs.declared.row.Row.{Row}
use Rattle.station_base.specs.CivilMinute.{CivilMinute}
use Rattle.station_base.specs.LastStamp.{Rises}
use Rattle.station_base.specs.RowLine.{row_line}
use Rattle.row_text.specs.declared.bad_line.BadLine.{BadLine}
use Rattle.row_text.specs.RowOfLine.{row_of_line}
use Rattle.row_text.specs.RowsOfText.{is_line_feed, onto_row, row_then, rows_of_parts, rows_of_text, AreLineRows, AreTextOf}
use Rattle.row_text.proofs.ReadBack.{line_text, line_ends, text_back}
use Rattle.row_text.proofs.Feedless.{line_one}
use Rattle.row_text.proofs.TextLines.{more_lines, after_ok}

parts_back : (last : Option CivilMinute) (line : ℕ) (rows : List Row) → Rises (λ row. Some row.stamp) last rows → AreLineRows rows → rows_of_parts last line (slice_split is_line_feed (flat_map row_line rows)) ≡ Ok rows
unfolding rows_of_parts
parts_back last line [] rise are = refl
parts_back last line (row ∷ rows) rise are =
    let rest : List ℕ = flat_map row_line rows in
    let whole : row_line row ++ rest ≡ line_text row ++ 10 ∷ rest =
    ap (λ (xs : List ℕ). xs ++ rest) (sym (line_ends row)) ∙ append_assoc (line_text row) (codes "\n") rest in
    let parts : slice_split is_line_feed (row_line row ++ rest) ≡ line_text row ∷ slice_split is_line_feed rest =
    ap (slice_split is_line_feed) whole ∙ slice_split_at is_line_feed (line_text row) 10 rest (line_one row are.0) refl in
    ap (rows_of_parts last line) parts
    ∙ more_lines last line (line_text row) (slice_split is_line_feed rest) (omega (arith, length-slice_split is_line_feed rest))
    ∙ ap (λ (r : Result Row BadLine). row_then r (λ x. rows_of_parts (Some x.stamp) (line + 1) (slice_split is_line_feed rest))) (after_ok last line (row_of_line (line_text row)) row (text_back row are.0) rise.0)
    ∙ ap (onto_row row) (parts_back (Some row.stamp) (line + 1) rows rise.1 are.1)

pub text_read_back : (text : List ℕ) (rows : List Row) → AreTextOf None rows text → rows_of_text text ≡ Ok rows
unfolding rows_of_text
text_read_back text rows are =
    ap (λ (xs : List ℕ). rows_of_parts None 1 (slice_split is_line_feed xs)) are.0 ∙ parts_back None 1 rows are.1 are.2
