-- The names that stand before values.
use Rattle.std.proofs.Common.{◌≡◌, ℕ, ◌<◌, Bool, true, false, List, [], ◌∷◌, ◌++◌, map, get_or, Option, Some, None, refl, sym, ap, ◌∙◌, arith, append_assoc}
use Rattle.std.specs.Prelude.{codes, option_and_then, not, ◌==◌}
use Rattle.std.specs.List.{list_all, range_with_len, slice_split, All}
use Rattle.std.proofs.lemmas.List.FromFn.{get_or-map-range_with_len}
use Rattle.std.proofs.lemmas.List.Sums.{AllPass-from_list_all}
use Rattle.std.proofs.lemmas.List.Splits.{slice_split_at}
use Rattle.std.proofs.lemmas.Option.{option_and_then_some, same_Some}
use Rattle.station_base.specs.Fields.{fields, name_of, field_count}
use Rattle.station_base.proofs.FieldTexts.{names_differ}
use Rattle.row_text.specs.Words.{behind}
use Rattle.row_text.specs.FieldsTold.{behind_name}
use Rattle.row_text.proofs.Behinds.{behind_is, behind_at}

-- what stands before the value of a field
abbrev pub head : ℕ → List ℕ
head field = codes " " ++ name_of field ++ codes "="

heads : (name more : List ℕ) → codes " " ++ (name ++ (codes "=" ++ more)) ≡ (codes " " ++ name ++ codes "=") ++ more
heads name more = ap (λ (xs : List ℕ). 32 ∷ xs) (sym (append_assoc name (codes "=") more))

pub name_is : (field : ℕ) (text more : List ℕ) → behind_name field text ≡ Some more → text ≡ head field ++ more
unfolding behind_name
name_is field text more found =
    option_and_then_some (behind (codes "=")) (option_and_then (behind (name_of field)) (behind (codes " ") text)) more found (λ named named_is equals.
    option_and_then_some (behind (name_of field)) (behind (codes " ") text) named named_is (λ blank blank_is name.
    behind_is (codes " ") text blank blank_is
    ∙ ap (λ (xs : List ℕ). codes " " ++ xs) (behind_is (name_of field) blank named name ∙ ap (λ (xs : List ℕ). name_of field ++ xs) (behind_is (codes "=") named more equals))
    ∙ heads (name_of field) more))

pub name_at : (field : ℕ) (more : List ℕ) → behind_name field (head field ++ more) ≡ Some more
unfolding behind_name
name_at field more =
    ap (λ (xs : List ℕ). option_and_then (behind (codes "=")) (option_and_then (behind (name_of field)) (behind (codes " ") xs))) (sym (heads (name_of field) more))
    ∙ ap (λ (o : Option (List ℕ)). option_and_then (behind (codes "=")) (option_and_then (behind (name_of field)) o)) (behind_at (codes " ") (name_of field ++ (codes "=" ++ more)))
    ∙ ap (λ (o : Option (List ℕ)). option_and_then (behind (codes "=")) o) (behind_at (name_of field) (codes "=" ++ more))
    ∙ behind_at (codes "=") more

-- no name has a sign of equality
names_plain : map (λ field. list_all (λ byte. not (byte == 61)) (name_of field)) (range_with_len 0 field_count) ≡ map (λ _. true) (range_with_len 0 field_count)
unfolding fields
names_plain = refl

name_plain : (field : ℕ) → field < field_count → list_all (λ byte. not (byte == 61)) (name_of field) ≡ true
name_plain field small =
    sym (get_or-map-range_with_len (λ f. list_all (λ byte. not (byte == 61)) (name_of f)) 0 field_count field field true small (omega arith))
    ∙ ap (λ all. get_or all field true) names_plain
    ∙ get_or-map-range_with_len (λ _. true) 0 field_count field field true small (omega arith)

none_equal : (name : List ℕ) → list_all (λ byte. not (byte == 61)) name ≡ true → All (λ byte. (byte == 61) ≡ false) name
none_equal name plain k d within = negated (get_or name k d == 61) (AllPass-from_list_all (λ byte. not (byte == 61)) name plain k d within)
  where
    negated : (b : Bool) → not b ≡ true → b ≡ false
    negated true is = cc
    negated false is = refl

-- a name ends at the first one
first_part : (name more : List ℕ) → list_all (λ byte. not (byte == 61)) name ≡ true → slice_split (λ byte. byte == 61) (name ++ 61 ∷ more) ≡ name ∷ slice_split (λ byte. byte == 61) more
first_part name more plain = slice_split_at (λ byte. byte == 61) name 61 more (none_equal name plain) refl

parts_same : (name other : List ℕ) (rest rests : List (List ℕ)) → name ∷ rest ≡ other ∷ rests → name ≡ other
parts_same name other rest rests same = cc

tails_same : (b c : ℕ) (xs ys : List ℕ) → b ∷ xs ≡ c ∷ ys → xs ≡ ys
tails_same b c xs ys same = cc

-- so a text begins with the name of one field at most
pub name_other : (field other : ℕ) (more rest : List ℕ) → field < field_count → other < field_count → behind_name field (head other ++ more) ≡ Some rest → field ≡ other
name_other field other more rest field_small other_small found =
    let whole : head other ++ more ≡ head field ++ rest = name_is field (head other ++ more) rest found in
    let texts : name_of other ++ 61 ∷ more ≡ name_of field ++ 61 ∷ rest =
    tails_same 32 32 _ _ (heads (name_of other) more ∙ whole ∙ sym (heads (name_of field) rest)) in
    let same : name_of field ≡ name_of other =
    parts_same (name_of field) (name_of other) (slice_split (λ byte. byte == 61) rest) (slice_split (λ byte. byte == 61) more)
    (sym (first_part (name_of field) rest (name_plain field field_small)) ∙ ap (slice_split (λ byte. byte == 61)) (sym texts) ∙ first_part (name_of other) more (name_plain other other_small)) in
    same_Some field other (names_differ field other field_small other_small same)

-- nothing begins with a name
pub name_empty : (field : ℕ) → behind_name field [] ≡ None
unfolding behind_name
name_empty field = refl
