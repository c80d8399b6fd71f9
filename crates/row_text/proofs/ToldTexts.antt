-- What is told of the fields, and its text.
use Rattle.std.proofs.Common.{◌≡◌, ℕ, ℤ, zero, suc, ◌+◌, ◌<◌, ◌≤◌, Bool, true, false, cond, List, [], ◌∷◌, ◌++◌, length, Option, Some, None, Result, Ok, Err, bytes_eq, refl, sym, ap, ◌∙◌, arith, append_assoc, subst, inl, inr, ◌⊎◌}
use Rattle.std.specs.Prelude.{codes}
use Rattle.std.proofs.lemmas.Slice.Eq.{bytes_eq-Decides}
use Rattle.station_base.specs.Fields.{field_count}
use Rattle.station_base.specs.NumberText.{signed_text}
use Rattle.station_base.specs.RowLine.{IsPrintable}
use Rattle.station_base.proofs.Printable.{printable_some, printable_none}
use Rattle.row_text.specs.declared.fault.RowFault.{RowFault}
use Rattle.row_text.specs.declared.fault.RowFault.TheVariants.{NoNumber}
use Rattle.row_text.specs.Steps.{◌>>=◌}
use Rattle.row_text.specs.Words.{first_word, behind_word}
use Rattle.row_text.specs.Numbers.{value_of_text, plain_number, size_of_text}
use Rattle.row_text.specs.FieldsTold.{ToldOfField, behind_name, told_by_word, told_from, onto_told, value_told, fault_behind_fields}
use Rattle.row_text.proofs.Behinds.{NoBlank, Ends, word_rest, word_is, rest_is}
use Rattle.row_text.proofs.Texts.{value_at, value_is, signed_plain}
use Rattle.row_text.proofs.Names.{head, name_is, name_at, name_other, name_empty}
use Rattle.row_text.proofs.FieldsInTurn.{told_step, told_step-some}

-- the word of what is told
abbrev pub told_text : Option ℤ → List ℕ
told_text None = codes "limit"
told_text (Some value) = signed_text value

-- what stands in a line of a field of which this is told
abbrev pub item : ℕ → ToldOfField → List ℕ
item field None = []
item field (Some told) = head field ++ told_text told

-- and of the fields from a number on
abbrev pub items : ℕ → List ToldOfField → List ℕ
items field [] = []
items field (told ∷ tolds) = item field told ++ items (field + 1) tolds

-- a word tells what it is the text of
pub told_is : (word : List ℕ) (told : Option ℤ) → told_by_word word ≡ Ok told → (word ≡ told_text told) × IsPrintable told
unfolding told_by_word
told_is word told read = go (bytes_eq word (codes "limit")) refl read
  where
    of_value : (value : Result ℤ RowFault) → value_of_text word ≡ value → value >>= (λ z. Ok (Some z)) ≡ Ok told → (word ≡ told_text told) × IsPrintable told
    of_value (Err fault) is found = cc
    of_value (Ok z) is found =
        let (text, within) = value_is z word is in
        let same : Some z ≡ told = cc in
        (sym text ∙ ap told_text same, (let P : Option ℤ → Type 0 = IsPrintable in subst P same (printable_some z within)))

    go : (limit : Bool) → bytes_eq word (codes "limit") ≡ limit → cond limit (Ok None) (value_of_text word >>= (λ z. Ok (Some z))) ≡ Ok told → (word ≡ told_text told) × IsPrintable told
    go true is found =
        let same : None ≡ told = cc in
        ((bytes_eq-Decides word (codes "limit")).0 is ∙ ap told_text same, (let P : Option ℤ → Type 0 = IsPrintable in subst P same printable_none))
    go false is found = of_value (value_of_text word) refl found

-- `limit` is no number
no_value : value_of_text (codes "limit") ≡ Err NoNumber
unfolding value_of_text size_of_text plain_number
no_value = refl

ok_err : {A : Type 0} (value : A) (fault : RowFault) (P : Type 0) → ◌≡◌ {A = Result A RowFault} (Err fault) (Ok value) → P
ok_err value fault P same = cc

-- so a value's text is read as the value
pub told_at : (told : Option ℤ) → IsPrintable told → told_by_word (told_text told) ≡ Ok told
unfolding told_by_word
told_at None printable = refl
told_at (Some z) printable =
    let read : value_of_text (signed_text z) ≡ Ok z = value_at z (printable z refl) in
    go (bytes_eq (signed_text z) (codes "limit")) refl read
  where
    go : (limit : Bool) → bytes_eq (signed_text z) (codes "limit") ≡ limit → value_of_text (signed_text z) ≡ Ok z
        → cond limit (Ok None) (value_of_text (signed_text z) >>= (λ v. Ok (Some v))) ≡ Ok (Some z)
    go true is read = ok_err z NoNumber _ (sym no_value ∙ ap value_of_text (sym ((bytes_eq-Decides (signed_text z) (codes "limit")).0 is)) ∙ read)
    go false is read = rw read refl

pub told_plain : (told : Option ℤ) → IsPrintable told → NoBlank (told_text told)
told_plain None printable = plain (codes "limit") refl
  where
    ne : (a : ℕ) → 32 < a → a ≡ 32 → ⊥
    ne a above same = absurd (omega arith)

    plain : (word : List ℕ) → word ≡ codes "limit" → NoBlank (codes "limit")
    plain word is = (ne 108 (omega arith), (ne 105 (omega arith), (ne 109 (omega arith), (ne 105 (omega arith), (ne 116 (omega arith), tt)))))
told_plain (Some z) printable = signed_plain z (printable z refl)

-- the text of what is told begins with a blank, or there is none
pub items_end : (field : ℕ) (tolds : List ToldOfField) → Ends (items field tolds)
items_end field [] = tt
items_end field (None ∷ tolds) = items_end (field + 1) tolds
items_end field (Some told ∷ tolds) = refl

-- all of it is printable
abbrev pub AreTold : List ToldOfField → Type 0
AreTold [] = Unit {0}
AreTold (told ∷ tolds) = IsPrintable (value_told told) × AreTold tolds

-- Reading what was written.

-- it begins with the name of one of its fields
abbrev FirstOf : ℕ → ℕ → List ℕ → Type 0
FirstOf field count text = (text ≡ []) ⊎ ((j : ℕ) × (more : List ℕ) × (field ≤ j) × (j < field + count) × (text ≡ head j ++ more))

first_item : (field : ℕ) (tolds : List ToldOfField) → FirstOf field (length tolds) (items field tolds)
first_item field [] = inl refl
first_item field (Some told ∷ tolds) =
    inr (field, told_text told ++ items (field + 1) tolds, omega arith, omega arith, append_assoc (head field) (told_text told) (items (field + 1) tolds))
first_item field (None ∷ tolds) = later (first_item (field + 1) tolds)
  where
    later : FirstOf (field + 1) (length tolds) (items (field + 1) tolds) → FirstOf field (suc (length tolds)) (items (field + 1) tolds)
    later (inl none) = inl none
    later (inr (j, more, from, to, is)) = inr (j, more, omega arith, omega arith, is)

-- the name of a field before it does not begin it
not_named : (field j : ℕ) (more : List ℕ) → field < j → j < field_count → behind_name field (head j ++ more) ≡ None
not_named field j more before small = go (behind_name field (head j ++ more)) refl
  where
    go : (found : Option (List ℕ)) → behind_name field (head j ++ more) ≡ found → found ≡ None
    go None is = refl
    go (Some rest) is = absurd (omega (arith, name_other field j more rest (omega arith) small is))

passed : (field : ℕ) (tolds : List ToldOfField) → field + 1 + length tolds ≤ field_count → behind_name field (items (field + 1) tolds) ≡ None
passed field tolds within = go (first_item (field + 1) tolds)
  where
    go : FirstOf (field + 1) (length tolds) (items (field + 1) tolds) → behind_name field (items (field + 1) tolds) ≡ None
    go (inl none) = ap (behind_name field) none ∙ name_empty field
    go (inr (j, more, from, to, is)) = ap (behind_name field) is ∙ not_named field j more (omega arith) (omega arith)

-- what is told is read back
pub told_back : (field : ℕ) (tolds : List ToldOfField) → field + length tolds ≤ field_count → AreTold tolds → told_from (length tolds) field (items field tolds) ≡ Ok tolds
unfolding told_from
told_back field [] within are = refl
told_back field (None ∷ tolds) within are =
    told_step (length tolds) field (items (field + 1) tolds) (passed field tolds (omega arith))
    ∙ ap (onto_told None) (told_back (field + 1) tolds (omega arith) are.1)
told_back field (Some told ∷ tolds) within are =
    let whole : (head field ++ told_text told) ++ items (field + 1) tolds ≡ head field ++ (told_text told ++ items (field + 1) tolds) =
    append_assoc (head field) (told_text told) (items (field + 1) tolds) in
    let found : behind_name field ((head field ++ told_text told) ++ items (field + 1) tolds) ≡ Some (told_text told ++ items (field + 1) tolds) =
    ap (behind_name field) whole ∙ name_at field (told_text told ++ items (field + 1) tolds) in
    told_step-some (length tolds) field ((head field ++ told_text told) ++ items (field + 1) tolds) (told_text told ++ items (field + 1) tolds) told found
    (ap told_by_word (word_is (told_text told) (items (field + 1) tolds) (told_plain told are.0) (items_end (field + 1) tolds)) ∙ told_at told are.0)
    ∙ ap (λ (xs : List ℕ). onto_told (Some told) (told_from (length tolds) (field + 1) xs)) (rest_is (told_text told) (items (field + 1) tolds) (told_plain told are.0) (items_end (field + 1) tolds))
    ∙ ap (onto_told (Some told)) (told_back (field + 1) tolds (omega arith) are.1)

-- Writing what was read.

-- what is read is told so
abbrev IsTold : ℕ → ℕ → List ℕ → List ToldOfField → Type 0
IsTold count field text tolds = (text ≡ items field tolds) × (length tolds ≡ count) × AreTold tolds

ok_same : {A : Type 0} (one other : A) → ◌≡◌ {A = Result A RowFault} (Ok one) (Ok other) → one ≡ other
ok_same one other same = cc

pub told_are : (count field : ℕ) (text : List ℕ) (tolds : List ToldOfField) → told_from count field text ≡ Ok tolds → IsTold count field text tolds
unfolding told_from behind_name
told_are zero field [] tolds read = let P : List ToldOfField → Type 0 = IsTold 0 field [] in subst P (ok_same [] tolds read) (refl, refl, tt)
told_are zero field (byte ∷ text) tolds read = ok_err tolds (fault_behind_fields (byte ∷ text)) _ read
told_are (suc count) field text tolds read = by_name (told_are count (field + 1)) (behind_name field text) refl read
  where
    more_none : ((rest : List ℕ) (others : List ToldOfField) → told_from count (field + 1) rest ≡ Ok others → IsTold count (field + 1) rest others)
        → (rest : Result (List ToldOfField) RowFault) → told_from count (field + 1) text ≡ rest → onto_told None rest ≡ Ok tolds → IsTold (suc count) field text tolds
    more_none ih (Err fault) is found = ok_err tolds fault _ found
    more_none ih (Ok others) is found =
        let (same, long, are) = ih text others is in
        let P : List ToldOfField → Type 0 = IsTold (suc count) field text in
        subst P (ok_same (None ∷ others) tolds found) (same, ap suc long, (printable_none, are))

    more_told : ((rest : List ℕ) (others : List ToldOfField) → told_from count (field + 1) rest ≡ Ok others → IsTold count (field + 1) rest others)
        → (more : List ℕ) (told : Option ℤ) → behind_name field text ≡ Some more → told_by_word (first_word more) ≡ Ok told
        → (rest : Result (List ToldOfField) RowFault) → told_from count (field + 1) (behind_word more) ≡ rest → onto_told (Some told) rest ≡ Ok tolds → IsTold (suc count) field text tolds
    more_told ih more told named word (Err fault) is found = ok_err tolds fault _ found
    more_told ih more told named word (Ok others) is found =
        let (same, long, are) = ih (behind_word more) others is in
        let (text_is, printable) = told_is (first_word more) told word in
        let P : List ToldOfField → Type 0 = IsTold (suc count) field text in
        let whole : text ≡ (head field ++ told_text told) ++ items (field + 1) others =
        name_is field text more named
        ∙ ap (λ (xs : List ℕ). head field ++ xs) (sym (word_rest more) ∙ ap (λ (xs : List ℕ). xs ++ behind_word more) text_is ∙ ap (λ (xs : List ℕ). told_text told ++ xs) same)
        ∙ sym (append_assoc (head field) (told_text told) (items (field + 1) others)) in
        subst P (ok_same (Some told ∷ others) tolds found) (whole, ap suc long, (printable, are))

    by_word : ((rest : List ℕ) (others : List ToldOfField) → told_from count (field + 1) rest ≡ Ok others → IsTold count (field + 1) rest others)
        → (more : List ℕ) (word : Result (Option ℤ) RowFault) → behind_name field text ≡ Some more → told_by_word (first_word more) ≡ word
        → word >>= (λ told. onto_told (Some told) (told_from count (field + 1) (behind_word more))) ≡ Ok tolds → IsTold (suc count) field text tolds
    by_word ih more (Err fault) named is found = ok_err tolds fault _ found
    by_word ih more (Ok told) named is found = more_told ih more told named is (told_from count (field + 1) (behind_word more)) refl found

    by_name : ((rest : List ℕ) (others : List ToldOfField) → told_from count (field + 1) rest ≡ Ok others → IsTold count (field + 1) rest others)
        → (named : Option (List ℕ)) → behind_name field text ≡ named
        → ◌≡◌ {A = Result (List ToldOfField) RowFault} (elim named [ None ↦ onto_told None (told_from count (field + 1) text) | Some more ↦ told_by_word (first_word more) >>= (λ told. onto_told (Some told) (told_from count (field + 1) (behind_word more))) ]) (Ok tolds)
        → IsTold (suc count) field text tolds
    by_name ih None is found = more_none ih (told_from count (field + 1) text) refl found
    by_name ih (Some more) is found = by_word ih more (told_by_word (first_word more)) is refl found
