-- The values and limits of a row, and what is told of its fields.
use Rattle.std.proofs.Common.{◌≡◌, ℕ, ℤ, zero, suc, ◌+◌, ◌%◌, ◌^◌, ◌<◌, ◌&&◌, Bool, true, false, cond, List, [], ◌∷◌, ◌++◌, length, map, get_or, Option, Some, None, refl, sym, ap, ◌∙◌, arith, append_assoc, subst, is_some}
use Rattle.std.specs.Prelude.{codes, All, not}
use Rattle.std.proofs.lemmas.List.{get_or-map}
use Rattle.std.proofs.Math.Nat.{mod-eq_of_lt}
use Rattle.station_base.specs.Fields.{name_of, field_count}
use Rattle.station_base.specs.FieldSet.{is_member, AreMissing}
use Rattle.station_base.specs.RowLine.{IsPrintable, value_text, values_text}
use Rattle.station_base.proofs.FieldSets.{missing_where, missing_below, missing_free}
use Rattle.row_text.specs.FieldsTold.{ToldOfField, value_told, is_told_limited, limits_told}
use Rattle.row_text.proofs.Names.{head}
use Rattle.row_text.proofs.FieldsInTurn.{small_next, small_sum}
use Rattle.row_text.proofs.Bits.{member_told, mod_next}
use Rattle.row_text.proofs.ToldTexts.{item, items, AreTold}

-- the text of a field that limits made missing
limit_text : (field : ℕ) → codes " " ++ name_of field ++ codes "=limit" ≡ head field ++ codes "limit"
limit_text field = sym (append_assoc (codes " " ++ name_of field) (codes "=") (codes "limit"))

one_same : (field : ℕ) (told : ToldOfField) → value_text (is_told_limited told) field (value_told told) ≡ item field told
one_same field None = refl
one_same field (Some None) = limit_text field
one_same field (Some (Some z)) = refl

small_bits : (low field : ℕ) (limit : Bool) → low < 2 ^ field → low + cond limit (2 ^ field) 0 < 2 ^ (field + 1)
small_bits low field true small = small_sum low field small
small_bits low field false small = let same : low + 0 ≡ low = omega arith in rw same (small_next low field small)

regroup : (a b c : ℕ) → a + (b + c) ≡ (a + b) + c
regroup a b c = omega arith

-- what is told of the fields, as a row's line tells it
pub texts_same : (low field : ℕ) (tolds : List ToldOfField) → low < 2 ^ field → values_text (low + limits_told field tolds) field (map value_told tolds) ≡ items field tolds
texts_same low field [] small = refl
texts_same low field (told ∷ tolds) small =
    let bits : ℕ = cond (is_told_limited told) (2 ^ field) 0 in
    let rest : ℕ = limits_told (field + 1) tolds in
    ap (λ (b : Bool). value_text b field (value_told told) ++ values_text (low + (bits + rest)) (field + 1) (map value_told tolds)) (member_told low field (is_told_limited told) tolds small)
    ∙ ap (λ (xs : List ℕ). xs ++ values_text (low + (bits + rest)) (field + 1) (map value_told tolds)) (one_same field told)
    ∙ ap (λ (xs : List ℕ). item field told ++ xs)
    (ap (λ (n : ℕ). values_text n (field + 1) (map value_told tolds)) (regroup low bits rest) ∙ texts_same (low + bits) (field + 1) tolds (small_bits low field (is_told_limited told) small))

-- each bit is that of its field
pub member_of : (low field k : ℕ) (tolds : List ToldOfField) → low < 2 ^ field → k < length tolds → is_member (low + limits_told field tolds) (field + k) ≡ is_told_limited (get_or tolds k None)
member_of low field k [] small within = absurd (omega arith)
member_of low field zero (told ∷ tolds) small within =
    let here : field + 0 ≡ field = omega arith in
    ap (λ (n : ℕ). is_member (low + limits_told field (told ∷ tolds)) n) here ∙ member_told low field (is_told_limited told) tolds small
member_of low field (suc k) (told ∷ tolds) small within =
    let bits : ℕ = cond (is_told_limited told) (2 ^ field) 0 in
    let there : field + suc k ≡ field + 1 + k = omega arith in
    ap (λ (n : ℕ). is_member (low + (bits + limits_told (field + 1) tolds)) n) there
    ∙ ap (λ (n : ℕ). is_member n (field + 1 + k)) (regroup low bits (limits_told (field + 1) tolds))
    ∙ member_of (low + bits) (field + 1) k tolds (small_bits low field (is_told_limited told) small) (omega arith)

-- and there are none beyond
pub limits_below : (low field : ℕ) (tolds : List ToldOfField) → low < 2 ^ field → low + limits_told field tolds < 2 ^ (field + length tolds)
limits_below low field [] small =
    let same : field + 0 ≡ field = omega arith in
    let sum : low + 0 ≡ low = omega arith in
    rw (same, sum) small
limits_below low field (told ∷ tolds) small =
    let bits : ℕ = cond (is_told_limited told) (2 ^ field) 0 in
    let there : field + suc (length tolds) ≡ field + 1 + length tolds = omega arith in
    rw (there, regroup low bits (limits_told (field + 1) tolds)) (limits_below (low + bits) (field + 1) tolds (small_bits low field (is_told_limited told) small))

-- so they are missing
told_free : (told : ToldOfField) → not (is_told_limited told && is_some (value_told told)) ≡ true
told_free None = refl
told_free (Some None) = refl
told_free (Some (Some z)) = refl

pub told_missing : (tolds : List ToldOfField) → length tolds ≡ field_count → AreMissing (limits_told 0 tolds) (map value_told tolds)
told_missing tolds long =
    let zero_sum : 0 + limits_told 0 tolds ≡ limits_told 0 tolds = omega arith in
    let below : 0 + limits_told 0 tolds < 2 ^ (0 + length tolds) = limits_below 0 0 tolds (omega arith) in
    let end : 0 + length tolds ≡ field_count = omega arith in
    missing_where (limits_told 0 tolds) (map value_told tolds) (let P : ℕ → Type 0 = λ n. limits_told 0 tolds < 2 ^ n in subst P end (rw zero_sum at below)) (λ field small.
    let here : 0 + field ≡ field = omega arith in
    let member : is_member (limits_told 0 tolds) field ≡ is_told_limited (get_or tolds field None) =
    ap (λ (n : ℕ). is_member n field) (sym zero_sum) ∙ ap (λ (n : ℕ). is_member (0 + limits_told 0 tolds) n) (sym here) ∙ member_of 0 0 field tolds (omega arith) (omega arith) in
    let value : get_or (map value_told tolds) field None ≡ value_told (get_or tolds field None) = get_or-map value_told tolds field None None (omega arith) in
    ap (λ (b : Bool). not (b && is_some (get_or (map value_told tolds) field None))) member
    ∙ ap (λ (v : Option ℤ). not (is_told_limited (get_or tolds field None) && is_some v)) value
    ∙ told_free (get_or tolds field None))

all_cons : (value : Option ℤ) (values : List (Option ℤ)) → IsPrintable value → All IsPrintable values → All IsPrintable (value ∷ values)
all_cons value values one all zero d within = one
all_cons value values one all (suc k) d within = all k d (omega arith)

pub told_printable : (tolds : List ToldOfField) → AreTold tolds → All IsPrintable (map value_told tolds)
told_printable [] are = λ k d within. absurd (omega arith)
told_printable (told ∷ tolds) are = all_cons (value_told told) (map value_told tolds) are.0 (told_printable tolds are.1)

-- What a row tells of its fields.
abbrev pub told_of : ℕ → ℕ → Option ℤ → ToldOfField
told_of limited field (Some value) = Some (Some value)
told_of limited field None = cond (is_member limited field) (Some None) None

abbrev pub tolds_of : ℕ → ℕ → List (Option ℤ) → List ToldOfField
tolds_of limited field [] = []
tolds_of limited field (value ∷ values) = told_of limited field value ∷ tolds_of limited (field + 1) values

pub tolds_length : (limited field : ℕ) (values : List (Option ℤ)) → length (tolds_of limited field values) ≡ length values
tolds_length limited field [] = refl
tolds_length limited field (value ∷ values) = ap suc (tolds_length limited (field + 1) values)

value_back : (limited field : ℕ) (value : Option ℤ) → value_told (told_of limited field value) ≡ value
value_back limited field (Some z) = refl
value_back limited field None = elim (is_member limited field) as (λ b. value_told (cond b (Some None) None) ≡ None) [ true ↦ refl | false ↦ refl ]

pub values_back : (limited field : ℕ) (values : List (Option ℤ)) → map value_told (tolds_of limited field values) ≡ values
values_back limited field [] = refl
values_back limited field (value ∷ values) =
    ap (λ (v : Option ℤ). v ∷ map value_told (tolds_of limited (field + 1) values)) (value_back limited field value)
    ∙ ap (λ (vs : List (Option ℤ)). value ∷ vs) (values_back limited (field + 1) values)

text_of_value : (limited field : ℕ) (value : Option ℤ) → value_text (is_member limited field) field value ≡ item field (told_of limited field value)
text_of_value limited field (Some z) = refl
text_of_value limited field None =
    elim (is_member limited field) as (λ b. value_text b field None ≡ item field (cond b (Some None) None)) [ true ↦ limit_text field | false ↦ refl ]

pub text_of_row : (limited field : ℕ) (values : List (Option ℤ)) → values_text limited field values ≡ items field (tolds_of limited field values)
text_of_row limited field [] = refl
text_of_row limited field (value ∷ values) =
    ap (λ (xs : List ℕ). xs ++ values_text limited (field + 1) values) (text_of_value limited field value)
    ∙ ap (λ (xs : List ℕ). item field (told_of limited field value) ++ xs) (text_of_row limited (field + 1) values)

pub row_told_printable : (limited field : ℕ) (values : List (Option ℤ)) → All IsPrintable values → AreTold (tolds_of limited field values)
row_told_printable limited field [] all = tt
row_told_printable limited field (value ∷ values) all =
    let P : Option ℤ → Type 0 = IsPrintable in
    (subst P (sym (value_back limited field value)) (all 0 None (omega arith)), row_told_printable limited (field + 1) values (λ k d within. all (suc k) d (omega arith)))

limit_back : (limited field : ℕ) (value : Option ℤ) → not (is_member limited field && is_some value) ≡ true → is_told_limited (told_of limited field value) ≡ is_member limited field
limit_back limited field (Some z) free = go (is_member limited field) free
  where
    go : (b : Bool) → not (b && true) ≡ true → false ≡ b
    go true is = cc
    go false is = refl
limit_back limited field None free = elim (is_member limited field) as (λ b. is_told_limited (cond b (Some None) None) ≡ b) [ true ↦ refl | false ↦ refl ]

-- its limits, and the bits before them, are its bits up to the last
pub limits_back : (limited field : ℕ) (values : List (Option ℤ)) → ((k : ℕ) → k < length values → not (is_member limited (field + k) && is_some (get_or values k None)) ≡ true)
    → limits_told field (tolds_of limited field values) + limited % 2 ^ field ≡ limited % 2 ^ (field + length values)
limits_back limited field [] free =
    let same : field + 0 ≡ field = omega arith in
    let sum : 0 + limited % 2 ^ field ≡ limited % 2 ^ field = omega arith in
    rw (same, sum) refl
limits_back limited field (value ∷ values) free =
    let here : field + 0 ≡ field = omega arith in
    let there : field + suc (length values) ≡ field + 1 + length values = omega arith in
    let first : not (is_member limited field && is_some value) ≡ true = ap (λ (n : ℕ). not (is_member limited n && is_some value)) (sym here) ∙ free 0 (omega arith) in
    let bit : is_told_limited (told_of limited field value) ≡ is_member limited field = limit_back limited field value first in
    let rest : limits_told (field + 1) (tolds_of limited (field + 1) values) + limited % 2 ^ (field + 1) ≡ limited % 2 ^ (field + 1 + length values) =
    limits_back limited (field + 1) values (λ k within.
    let next : field + 1 + k ≡ field + suc k = omega arith in
    ap (λ (n : ℕ). not (is_member limited n && is_some (get_or values k None))) next ∙ free (suc k) (omega arith)) in
    ap (λ (b : Bool). (cond b (2 ^ field) 0 + limits_told (field + 1) (tolds_of limited (field + 1) values)) + limited % 2 ^ field) bit
    ∙ swapped (cond (is_member limited field) (2 ^ field) 0) (limits_told (field + 1) (tolds_of limited (field + 1) values)) (limited % 2 ^ field) (limited % 2 ^ (field + 1)) (mod_next limited field)
    ∙ rest
    ∙ ap (λ (n : ℕ). limited % 2 ^ n) (sym there)
  where
    swapped : (a b c d : ℕ) → d ≡ a + c → (a + b) + c ≡ b + d
    swapped a b c d sum = omega arith

pub limits_whole : (limited : ℕ) (values : List (Option ℤ)) → length values ≡ field_count → AreMissing limited values → limits_told 0 (tolds_of limited 0 values) ≡ limited
limits_whole limited values long missing =
    let all = limits_back limited 0 values (λ k within.
    let here : 0 + k ≡ k = omega arith in
    ap (λ (n : ℕ). not (is_member limited n && is_some (get_or values k None))) here ∙ missing_free limited values missing k (omega arith)) in
    let end : 0 + length values ≡ field_count = omega arith in
    let low : limited % 2 ^ 0 ≡ 0 = omega arith in
    let top : limited % 2 ^ (0 + length values) ≡ limited = ap (λ (n : ℕ). limited % 2 ^ n) end ∙ mod-eq_of_lt (missing_below limited values missing) in
    let sum : limits_told 0 (tolds_of limited 0 values) + 0 ≡ limits_told 0 (tolds_of limited 0 values) = omega arith in
    sym sum ∙ ap (λ (n : ℕ). limits_told 0 (tolds_of limited 0 values) + n) (sym low) ∙ all ∙ top
