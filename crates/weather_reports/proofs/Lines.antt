-- Lines, and the text of them.
use Rattle.std.proofs.Common.{◌≡◌, ℕ, ◌+◌, ◌<◌, List, ◌++◌, Option, Some, drop, map, length, ap, ◌∙◌}
use Rattle.std.specs.Prelude.{get_or}
use Rattle.std.proofs.lemmas.List.{append-nil, drop_more}
use Rattle.std.proofs.lemmas.Grind.{flat_map-append}
use Rattle.station_base.specs.RowLine.{row_line}
use Rattle.station_base.specs.declared.row.Row.{Row}
use Rattle.daily_summary.specs.declared.field_sum.FieldSum.{FieldSum}
use Rattle.weather_reports.specs.Line.{field_line, field_lines_from, sum_line}
use Rattle.weather_reports.specs.Reported.{text_of_lines}

-- the text of lines behind one another
pub text_join : (xs ys : List (List ℕ)) → text_of_lines (xs ++ ys) ≡ text_of_lines xs ++ text_of_lines ys
text_join xs ys = flat_map-append (λ (line : List ℕ). line) xs ys

-- the lines of rows, from one on
pub rows_step : (rows : List Row) (i : ℕ) (d : Row) → i < length rows
    → text_of_lines (map row_line (drop i rows)) ≡ row_line (get_or rows i d) ++ text_of_lines (map row_line (drop (i + 1) rows))
rows_step rows i d lt = ap (λ (rs : List Row). text_of_lines (map row_line rs)) (drop_more rows i d lt)

-- the lines of fields, from one on
pub sums_step : (head : List ℕ) (sums : List (Option FieldSum)) (i : ℕ) (d : Option FieldSum) → i < length sums
    → text_of_lines (field_lines_from head i (drop i sums))
    ≡ text_of_lines (field_line head i (get_or sums i d)) ++ text_of_lines (field_lines_from head (i + 1) (drop (i + 1) sums))
sums_step head sums i d lt =
    ap (λ (ss : List (Option FieldSum)). text_of_lines (field_lines_from head i ss)) (drop_more sums i d lt)
    ∙ text_join (field_line head i (get_or sums i d)) (field_lines_from head (i + 1) (drop (i + 1) sums))

-- the same where the first of them has a value
pub sums_some : (head : List ℕ) (sums : List (Option FieldSum)) (i : ℕ) (d : Option FieldSum) (s : FieldSum) → i < length sums → get_or sums i d ≡ Some s
    → text_of_lines (field_lines_from head i (drop i sums)) ≡ sum_line head i s ++ text_of_lines (field_lines_from head (i + 1) (drop (i + 1) sums))
sums_some head sums i d s lt is =
    let ahead = text_of_lines (field_lines_from head (i + 1) (drop (i + 1) sums)) in
    sums_step head sums i d lt ∙ ap (λ (o : Option FieldSum). text_of_lines (field_line head i o) ++ ahead) is
    ∙ ap (λ (t : List ℕ). t ++ ahead) (append-nil (sum_line head i s))
