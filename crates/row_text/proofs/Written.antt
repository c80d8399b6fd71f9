-- What is read as a row is the row's line.
use Rattle.std.proofs.Common.{◌≡◌, ℕ, ◌+◌, List, ◌++◌, length, take, drop, map, Option, Some, None, Result, Ok, Err, refl, sym, ap, ◌∙◌, arith, subst}
use Rattle.std.specs.Prelude.{codes}
use Rattle.std.proofs.lemmas.List.{take-append-drop, length-map}
use Rattle.station_base.specs.declared.row.Row.{Row}
use Rattle.station_base.specs.CivilMinute.{CivilMinute, IsCivilMinute}
use Rattle.station_base.specs.Period.{IsPeriod}
use Rattle.station_base.specs.Fields.{field_count}
use Rattle.station_base.specs.NumberText.{number_text}
use Rattle.station_base.specs.RowLine.{row_line, values_text}
use Rattle.station_base.specs.Stamp.{stamp_text, stamp_of_text}
use Rattle.row_text.specs.declared.fault.RowFault.{RowFault}
use Rattle.row_text.specs.declared.fault.RowFault.TheVariants.{NoRow, NoStamp, NoPeriod}
use Rattle.row_text.specs.Steps.{◌>>=◌, or_fault}
use Rattle.row_text.specs.Words.{behind, first_word, behind_word}
use Rattle.row_text.specs.Numbers.{period_of_text}
use Rattle.row_text.specs.FieldsTold.{ToldOfField, told_from, value_told, limits_told}
use Rattle.row_text.specs.RowOfLine.{row_of_line, row_behind_period, row_told}
use Rattle.row_text.specs.IsLineRow.{IsLineRow}
use Rattle.row_text.proofs.Behinds.{behind_is, word_rest}
use Rattle.row_text.proofs.Texts.{period_is}
use Rattle.row_text.proofs.ToldTexts.{items, AreTold, told_are}
use Rattle.row_text.proofs.RowBits.{texts_same, told_missing, told_printable}
use Rattle.row_text.proofs.Stamps.{stamp_is, line_regrouped}

-- what was made of a value, was made of one that is there
bind_ok : {A B : Type 0} (read : Result A RowFault) (f : A → Result B RowFault) (found : B) → read >>= f ≡ Ok found → (value : A) × (read ≡ Ok value) × (f value ≡ Ok found)
bind_ok (Err fault) f found is = cc
bind_ok (Ok value) f found is = (value, refl, is)

there : {A : Type 0} (fault : RowFault) (found : Option A) (value : A) → or_fault fault found ≡ Ok value → found ≡ Some value
there fault None value is = cc
there fault (Some other) value is = let same : other ≡ value = cc in ap Some same

-- the row has a line, which is this text and a line feed
abbrev IsRead : List ℕ → Row → Type 0
IsRead line row = IsLineRow row × (line ++ codes "\n" ≡ row_line row)

-- a line of these parts
line_of_parts : (stamp : CivilMinute) (interval : ℕ) (tolds : List ToldOfField) → IsCivilMinute stamp → IsPeriod interval → length tolds ≡ field_count → AreTold tolds
    → IsRead (codes "row " ++ (stamp_text stamp ++ (codes " " ++ (number_text interval ++ items 0 tolds)))) (row_told stamp interval tolds)
unfolding row_line
line_of_parts stamp interval tolds civil period long are =
    let zero_sum : 0 + limits_told 0 tolds ≡ limits_told 0 tolds = omega arith in
    let values : values_text (limits_told 0 tolds) 0 (map value_told tolds) ≡ items 0 tolds =
    ap (λ (n : ℕ). values_text n 0 (map value_told tolds)) (sym zero_sum) ∙ texts_same 0 0 tolds (omega arith) in (
      record {
        stamp = civil;
        interval = period;
        fields = length-map tolds value_told ∙ long;
        values = told_printable tolds are;
        limited = told_missing tolds long;
      },
      line_regrouped (stamp_text stamp) (number_text interval) (items 0 tolds)
          ∙ ap (λ (xs : List ℕ). codes "row " ++ stamp_text stamp ++ codes " " ++ number_text interval ++ xs ++ codes "\n") (sym values),
    )

pub read_is_line : (line : List ℕ) (row : Row) → row_of_line line ≡ Ok row → IsRead line row
unfolding row_of_line row_behind_period
read_is_line line row read =
    let (text, text_read, after_text) = bind_ok (or_fault NoRow (behind (codes "row ") line)) _ row read in
    let (stamp, stamp_read, after_stamp) = bind_ok (or_fault NoStamp (stamp_of_text (take 16 text))) _ row after_text in
    let (more, more_read, after_more) = bind_ok (or_fault NoPeriod (behind (codes " ") (drop 16 text))) _ row after_stamp in
    let (interval, interval_read, after_interval) = bind_ok (or_fault NoPeriod (period_of_text (first_word more))) _ row after_more in
    let (tolds, tolds_read, made) = bind_ok (told_from field_count 0 (behind_word more)) _ row after_interval in
    let begun : line ≡ codes "row " ++ text = behind_is (codes "row ") line text (there NoRow _ text text_read) in
    let (stamp_text_is, civil) = stamp_is (take 16 text) stamp (there NoStamp _ stamp stamp_read) in
    let blank : drop 16 text ≡ codes " " ++ more = behind_is (codes " ") (drop 16 text) more (there NoPeriod _ more more_read) in
    let (period_text_is, period) = period_is interval (first_word more) (there NoPeriod _ interval interval_read) in
    let (items_are, long, are) = told_are field_count 0 (behind_word more) tolds tolds_read in
    let same : row_told stamp interval tolds ≡ row = ok_row (row_told stamp interval tolds) row made in
    let behind_stamp : drop 16 text ≡ codes " " ++ (number_text interval ++ items 0 tolds) =
    blank ∙ ap (λ (xs : List ℕ). codes " " ++ xs) (sym (word_rest more) ∙ ap (λ (xs : List ℕ). xs ++ behind_word more) (sym period_text_is) ∙ ap (λ (xs : List ℕ). number_text interval ++ xs) items_are) in
    let whole : line ≡ codes "row " ++ (stamp_text stamp ++ (codes " " ++ (number_text interval ++ items 0 tolds))) =
    begun ∙ ap (λ (xs : List ℕ). codes "row " ++ xs) (sym (take-append-drop 16 text) ∙ ap (λ (xs : List ℕ). xs ++ drop 16 text) (sym stamp_text_is) ∙ ap (λ (xs : List ℕ). stamp_text stamp ++ xs) behind_stamp) in
    let P : List ℕ → Type 0 = λ xs. IsRead xs (row_told stamp interval tolds) in
    let Q : Row → Type 0 = IsRead line in
    subst Q same (subst P (sym whole) (line_of_parts stamp interval tolds civil period long are))
  where
    ok_row : (one other : Row) → ◌≡◌ {A = Result Row RowFault} (Ok one) (Ok other) → one ≡ other
    ok_row one other is = cc

pub read_row_is : (line : List ℕ) (row : Row) → row_of_line line ≡ Ok row → IsLineRow row
read_row_is line row read = (read_is_line line row read).0

pub read_line_is : (line : List ℕ) (row : Row) → row_of_line line ≡ Ok row → line ++ codes "\n" ≡ row_line row
read_line_is line row read = (read_is_line line row read).1
