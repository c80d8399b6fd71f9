-- The line of a row has no line feed but its last byte.
use Rattle.std.proofs.Common.{◌≡◌, ℕ, ℤ, zero, suc, pos, negsuc, ◌+◌, ◌/◌, ◌%◌, ◌^◌, ◌<◌, ◌≤◌, ◌==◌, Bool, true, false, List, [], ◌∷◌, ◌++◌, length, map, get_or, Option, Some, None, refl, sym, ap, ◌∙◌, arith}
use Rattle.std.specs.Prelude.{codes, not}
use Rattle.std.specs.Char.{digit_value}
use Rattle.std.specs.Fmt.{decimal}
use Rattle.std.specs.List.{list_all, range_with_len, All}
use Rattle.std.specs.Str.Parse.{AllDigits}
use Rattle.std.proofs.lemmas.Bool.{ne_eqb, and_from}
use Rattle.std.proofs.lemmas.Fmt.{decimal_is_IsNumeral}
use Rattle.std.proofs.lemmas.List.Folds.{list_all-append}
use Rattle.std.proofs.lemmas.List.FromFn.{get_or-map-range_with_len}
use Rattle.std.proofs.lemmas.List.Sums.{AllPass-from_list_all}
use Rattle.jiff_core.specs.Calendar.{IsWithin}
use Rattle.jiff_core.proofs.SignedLemmas.{signed_arith}
use Rattle.station_base.specs.declared.row.Row.{Row}
use Rattle.station_base.specs.CivilMinute.{CivilMinute}
use Rattle.station_base.specs.Digits.{digits}
use Rattle.station_base.specs.Fields.{fields, name_of, field_count}
use Rattle.station_base.specs.Limits.{farthest_value}
use Rattle.station_base.specs.NumberText.{number_text, signed_text}
use Rattle.station_base.specs.RowLine.{IsPrintable, values_text}
use Rattle.station_base.specs.Stamp.{stamp_text}
use Rattle.station_base.proofs.Periods.{period_bound}
use Rattle.row_text.specs.FieldsTold.{ToldOfField}
use Rattle.row_text.specs.IsLineRow.{IsLineRow}
use Rattle.row_text.specs.RowsOfText.{is_line_feed}
use Rattle.row_text.proofs.Names.{head}
use Rattle.row_text.proofs.ToldTexts.{told_text, items, AreTold}
use Rattle.row_text.proofs.RowBits.{tolds_of, tolds_length, text_of_row, row_told_printable}
use Rattle.row_text.proofs.ReadBack.{line_text}

-- no byte is a line feed
abbrev pub is_plain : List ℕ → Bool
is_plain text = list_all (λ byte. not (byte == 10)) text

both : (one other : List ℕ) → is_plain one ≡ true → is_plain other ≡ true → is_plain (one ++ other) ≡ true
both one other first second =
    list_all-append (λ byte. not (byte == 10)) one other ∙ and_from (is_plain one) (is_plain other) first second

-- one byte more
with : (byte : ℕ) (text : List ℕ) → (byte ≡ 10 → ⊥) → is_plain text ≡ true → is_plain (byte ∷ text) ≡ true
with byte text other rest = and_from (not (byte == 10)) (is_plain text) (ap not (ne_eqb byte 10 other)) rest

digits_plain : (count n : ℕ) → is_plain (digits count n) ≡ true
digits_plain zero n = refl
digits_plain (suc count) n = with (48 + n / 10 ^ count % 10) (digits count n) (λ feed. absurd (omega arith)) (digits_plain count n)

stamp_plain : (c : CivilMinute) → is_plain (stamp_text c) ≡ true
unfolding stamp_text
stamp_plain c =
    both (digits 4 c.year ++ codes "-" ++ digits 2 c.month ++ codes "-" ++ digits 2 c.day ++ codes " " ++ digits 2 c.hour ++ codes ":") (digits 2 c.minute)
    (both (digits 4 c.year ++ codes "-" ++ digits 2 c.month ++ codes "-" ++ digits 2 c.day ++ codes " " ++ digits 2 c.hour) (codes ":")
    (both (digits 4 c.year ++ codes "-" ++ digits 2 c.month ++ codes "-" ++ digits 2 c.day ++ codes " ") (digits 2 c.hour)
    (both (digits 4 c.year ++ codes "-" ++ digits 2 c.month ++ codes "-" ++ digits 2 c.day) (codes " ")
    (both (digits 4 c.year ++ codes "-" ++ digits 2 c.month ++ codes "-") (digits 2 c.day)
    (both (digits 4 c.year ++ codes "-" ++ digits 2 c.month) (codes "-")
    (both (digits 4 c.year ++ codes "-") (digits 2 c.month)
    (both (digits 4 c.year) (codes "-") (digits_plain 4 c.year) refl) (digits_plain 2 c.month)) refl) (digits_plain 2 c.day)) refl) (digits_plain 2 c.hour)) refl) (digits_plain 2 c.minute)

all_plain : (ds : List ℕ) → AllDigits 10 ds → is_plain ds ≡ true
all_plain [] all = refl
all_plain (d ∷ ds) all = with d ds (λ feed. not_feed d feed all.0) (all_plain ds all.1)
  where
    not_feed : (b : ℕ) → b ≡ 10 → digit_value b < 10 → ⊥
    not_feed b feed below = let large : 36 < 10 = rw feed at below in absurd (omega arith)

number_feedless : (n : ℕ) → n < 2 ^ 64 → is_plain (number_text n) ≡ true
unfolding number_text
number_feedless n small = all_plain (decimal n) (decimal_is_IsNumeral n small).0.1

told_feedless : (told : Option ℤ) → IsPrintable told → is_plain (told_text told) ≡ true
told_feedless None printable = refl
told_feedless (Some z) printable = value z (printable z refl)
  where
    value : (v : ℤ) → IsWithin farthest_value v → is_plain (signed_text v) ≡ true
    value (pos n) within = let near : n ≤ farthest_value = omega (arith, signed_arith) in number_feedless n (omega arith)
    value (negsuc n) within = let near : suc n ≤ farthest_value = omega (arith, signed_arith) in both (codes "-") (number_text (suc n)) refl (number_feedless (suc n) (omega arith))

names_feedless : map (λ field. is_plain (name_of field)) (range_with_len 0 field_count) ≡ map (λ _. true) (range_with_len 0 field_count)
unfolding fields
names_feedless = refl

head_feedless : (field : ℕ) → field < field_count → is_plain (head field) ≡ true
head_feedless field small =
    let name : is_plain (name_of field) ≡ true =
    sym (get_or-map-range_with_len (λ f. is_plain (name_of f)) 0 field_count field field true small (omega arith))
    ∙ ap (λ all. get_or all field true) names_feedless
    ∙ get_or-map-range_with_len (λ _. true) 0 field_count field field true small (omega arith) in
    both (codes " " ++ name_of field) (codes "=") (both (codes " ") (name_of field) refl name) refl

items_feedless : (field : ℕ) (tolds : List ToldOfField) → field + length tolds ≤ field_count → AreTold tolds → is_plain (items field tolds) ≡ true
items_feedless field [] within are = refl
items_feedless field (None ∷ tolds) within are = items_feedless (field + 1) tolds (omega arith) are.1
items_feedless field (Some told ∷ tolds) within are =
    both (head field ++ told_text told) (items (field + 1) tolds)
    (both (head field) (told_text told) (head_feedless field (omega arith)) (told_feedless told are.0))
    (items_feedless (field + 1) tolds (omega arith) are.1)

-- a row's line, without its line feed, has none
line_feedless : (row : Row) → IsLineRow row → is_plain (line_text row) ≡ true
line_feedless row is =
    let values : is_plain (values_text row.limited 0 row.values) ≡ true =
    ap is_plain (text_of_row row.limited 0 row.values)
    ∙ items_feedless 0 (tolds_of row.limited 0 row.values) (omega (arith, is.fields, tolds_length row.limited 0 row.values)) (row_told_printable row.limited 0 row.values is.values) in
    let number = number_feedless row.interval (omega (arith, period_bound row.interval is.interval)) in
    both (codes "row ") (stamp_text row.stamp ++ (codes " " ++ (number_text row.interval ++ values_text row.limited 0 row.values))) refl
    (both (stamp_text row.stamp) (codes " " ++ (number_text row.interval ++ values_text row.limited 0 row.values)) (stamp_plain row.stamp)
    (both (codes " ") (number_text row.interval ++ values_text row.limited 0 row.values) refl
    (both (number_text row.interval) (values_text row.limited 0 row.values) number values)))

pub line_one : (row : Row) → IsLineRow row → All (λ byte. is_line_feed byte ≡ false) (line_text row)
line_one row is k d within = negated (is_line_feed (get_or (line_text row) k d)) (AllPass-from_list_all (λ byte. not (byte == 10)) (line_text row) (line_feedless row is) k d within)
  where
    negated : (b : Bool) → not b ≡ true → b ≡ false
    negated true open_ = cc
    negated false open_ = refl
