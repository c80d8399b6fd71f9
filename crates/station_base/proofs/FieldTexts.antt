-- The texts of the fields, as the code has them.
use Rattle.std.proofs.Common.{◌≡◌, ℕ, ◌+◌, ◌<◌, ◌++◌, List, [], codes, take, map, length, get_or, Bor, refl, sym, ◌∙◌, ap, arith, Option, Some, None, bytes_eq, position, nat_le, true, ◌≤◌}
use Rattle.std.proofs.lemmas.Bool.Decides.{nat_tests}
use Rattle.std.specs.List.{range_with_len}
use Rattle.std.proofs.lemmas.List.FromFn.{get_or-map-range_with_len}
use Rattle.std.proofs.lemmas.List.{get_or-map}
use Rattle.station_base.specs.declared.field.TheConstants.{HEADS}
use Rattle.station_base.specs.Fields.{FieldText, fields, field, field_text, name_of, field_unit, field_count}

-- a name and a unit, which stand in the code's table
abbrev pub Texts : Type 0
Texts = Bor (List ℕ) × Bor (List ℕ)

abbrev pub text_of : Texts → FieldText
text_of texts = field texts.0.now texts.1.now

-- where the tables agree, so do their entries
pub text_at : (table : List Texts) (i : ℕ) (d : Texts) → map text_of table ≡ fields → i < length table → text_of (get_or table i d) ≡ field_text i
text_at table i d agree small =
    sym (get_or-map text_of table i d (field [] []) small) ∙ ap (λ all. get_or all i (field [] [])) agree

pub name_at : (table : List Texts) (i : ℕ) (d : Texts) → map text_of table ≡ fields → i < length table → (get_or table i d).0.now ≡ name_of i
name_at table i d agree small = ap (λ text. text.name) (text_at table i d agree small)

pub unit_at : (table : List Texts) (i : ℕ) (d : Texts) → map text_of table ≡ fields → i < length table → (get_or table i d).1.now ≡ field_unit i
unit_at table i d agree small = ap (λ text. text.unit) (text_at table i d agree small)

-- where a text stands among the names
place : List ℕ → Option ℕ
place text = position (bytes_eq text) (map (λ field. field.name) fields)

-- each name stands at the number of its field
names_places : map (λ index. place (name_of index)) (range_with_len 0 field_count) ≡ map Some (range_with_len 0 field_count)
unfolding place fields
names_places = refl

name_place : (i : ℕ) → i < field_count → place (name_of i) ≡ Some i
name_place i small =
    sym (get_or-map-range_with_len (λ index. place (name_of index)) 0 field_count i i None small (omega arith))
    ∙ ap (λ all. get_or all i None) names_places
    ∙ get_or-map-range_with_len Some 0 field_count i i None small (omega arith)

-- so no two fields have one name
pub names_differ : (i j : ℕ) → i < field_count → j < field_count → name_of i ≡ name_of j → Some i ≡ Some j
names_differ i j i_small j_small same = sym (name_place i i_small) ∙ ap place same ∙ name_place j j_small

-- a name has at most thirteen letters
names_short : map (λ index. nat_le (length (name_of index)) 13) (range_with_len 0 field_count) ≡ map (λ _. true) (range_with_len 0 field_count)
unfolding fields
names_short = refl

pub name_width : (i : ℕ) → i < field_count → length (name_of i) ≤ 13
name_width i small =
    let test : nat_le (length (name_of i)) 13 ≡ true =
    sym (get_or-map-range_with_len (λ index. nat_le (length (name_of index)) 13) 0 field_count i i true small (omega arith))
    ∙ ap (λ all. get_or all i true) names_short
    ∙ get_or-map-range_with_len (λ _. true) 0 field_count i i true small (omega arith) in
    grind (arith, nat_tests)

-- each head begins with ` NAME=`
heads_begin : (d : List ℕ) → map (λ index. take (length (name_of index) + 2) (get_or HEADS index d)) (range_with_len 0 field_count) ≡ map (λ index. codes " " ++ name_of index ++ codes "=") (range_with_len 0 field_count)
unfolding fields
heads_begin d = refl

pub head_at : (i : ℕ) (d : List ℕ) → i < field_count → take (length (name_of i) + 2) (get_or HEADS i d) ≡ codes " " ++ name_of i ++ codes "="
head_at i d small =
    sym (get_or-map-range_with_len (λ index. take (length (name_of index) + 2) (get_or HEADS index d)) 0 field_count i i [] small (omega arith))
    ∙ ap (λ all. get_or all i []) (heads_begin d)
    ∙ get_or-map-range_with_len (λ index. codes " " ++ name_of index ++ codes "=") 0 field_count i i [] small (omega arith)
