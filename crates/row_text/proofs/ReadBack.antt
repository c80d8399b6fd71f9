-- The line of a row is read as the row.
use Rattle.std.proofs.Common.{◌≡◌, ℕ, ℤ, List, ◌++◌, length, take, drop, Option, Result, Ok, sym, ap, ◌∙◌, arith, subst}
use Rattle.std.specs.Prelude.{codes}
use Rattle.std.proofs.Math.Seq.{take-append_seam, drop-append_seam}
use Rattle.std.proofs.lemmas.List.{append_cancel_right}
use Rattle.station_base.specs.declared.row.Row.{Row}
use Rattle.station_base.specs.Fields.{field_count}
use Rattle.station_base.specs.NumberText.{number_text}
use Rattle.station_base.specs.RowLine.{row_line, values_text}
use Rattle.station_base.specs.Stamp.{stamp_text, stamp_of_text}
use Rattle.station_base.proofs.Periods.{period_bound}
use Rattle.station_base.proofs.StampTexts.{stamp_read_back}
use Rattle.row_text.specs.declared.fault.RowFault.{RowFault}
use Rattle.row_text.specs.Steps.{◌>>=◌}
use Rattle.row_text.specs.Words.{behind}
use Rattle.row_text.specs.Numbers.{period_of_text}
use Rattle.row_text.specs.FieldsTold.{ToldOfField, told_from, limits_told}
use Rattle.row_text.specs.RowOfLine.{row_of_line, row_behind_period, row_told}
use Rattle.row_text.specs.IsLineRow.{IsLineRow}
use Rattle.row_text.proofs.Behinds.{Ends, behind_at, word_is, rest_is}
use Rattle.row_text.proofs.Texts.{period_at, number_plain}
use Rattle.row_text.proofs.ToldTexts.{items, items_end, told_back}
use Rattle.row_text.proofs.RowBits.{tolds_of, tolds_length, values_back, text_of_row, row_told_printable, limits_whole}
use Rattle.row_text.proofs.Stamps.{length-stamp_text, line_regrouped}
use Rattle.row_text.proofs.Rows.{line_parts}

-- the row's line without its line feed
abbrev pub line_text : Row → List ℕ
line_text row = codes "row " ++ (stamp_text row.stamp ++ (codes " " ++ (number_text row.interval ++ values_text row.limited 0 row.values)))

pub line_ends : (row : Row) → line_text row ++ codes "\n" ≡ row_line row
unfolding row_line
line_ends row = line_regrouped (stamp_text row.stamp) (number_text row.interval) (values_text row.limited 0 row.values)

-- the fields are read back
fields_back : (row : Row) → IsLineRow row → row_behind_period row.stamp row.interval (values_text row.limited 0 row.values) ≡ Ok row
unfolding row_behind_period
fields_back row is =
    let tolds : List ToldOfField = tolds_of row.limited 0 row.values in
    let long : length tolds ≡ field_count = tolds_length row.limited 0 row.values ∙ is.fields in
    let read : told_from field_count 0 (values_text row.limited 0 row.values) ≡ Ok tolds =
    ap (told_from field_count 0) (text_of_row row.limited 0 row.values)
    ∙ ap (λ (n : ℕ). told_from n 0 (items 0 tolds)) (sym long)
    ∙ told_back 0 tolds (omega arith) (row_told_printable row.limited 0 row.values is.values) in
    ap (λ (r : Result (List ToldOfField) RowFault). r >>= (λ ts. Ok (row_told row.stamp row.interval ts))) read
    ∙ ap (λ (vs : List (Option ℤ)). Ok (record { stamp = row.stamp; interval = row.interval; values = vs; limited = limits_told 0 tolds })) (values_back row.limited 0 row.values)
    ∙ ap (λ (n : ℕ). Ok (record { stamp = row.stamp; interval = row.interval; values = row.values; limited = n })) (limits_whole row.limited row.values is.fields is.limited)

pub text_back : (row : Row) → IsLineRow row → row_of_line (line_text row) ≡ Ok row
text_back row is =
    let values : List ℕ = values_text row.limited 0 row.values in
    let more : List ℕ = number_text row.interval ++ values in
    let text : List ℕ = stamp_text row.stamp ++ (codes " " ++ more) in
    let front : take 16 text ≡ stamp_text row.stamp =
    ap (λ (n : ℕ). take n text) (sym (length-stamp_text row.stamp)) ∙ take-append_seam (stamp_text row.stamp) (codes " " ++ more) in
    let behind_front : drop 16 text ≡ codes " " ++ more =
    ap (λ (n : ℕ). drop n text) (sym (length-stamp_text row.stamp)) ∙ drop-append_seam (stamp_text row.stamp) (codes " " ++ more) in
    let plain = number_plain row.interval (omega (arith, period_bound row.interval is.interval)) in
    let ends = let P : List ℕ → Type 0 = Ends in subst P (sym (text_of_row row.limited 0 row.values)) (items_end 0 (tolds_of row.limited 0 row.values)) in
    line_parts (line_text row) text (behind_at (codes "row ") text) row.stamp more (ap stamp_of_text front ∙ stamp_read_back row.stamp is.stamp) (ap (behind (codes " ")) behind_front ∙ behind_at (codes " ") more)
    row.interval (ap period_of_text (word_is (number_text row.interval) values plain ends) ∙ period_at row.interval is.interval)
    ∙ ap (row_behind_period row.stamp row.interval) (rest_is (number_text row.interval) values plain ends)
    ∙ fields_back row is

pub line_read_back : (row : Row) (line : List ℕ) → IsLineRow row → line ++ codes "\n" ≡ row_line row → row_of_line line ≡ Ok row
line_read_back row line is ends =
    ap row_of_line (append_cancel_right line (line_text row) (codes "\n") (ends ∙ sym (line_ends row))) ∙ text_back row is
