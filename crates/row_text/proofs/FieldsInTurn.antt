-- The fields of a row, read one after another.
use Rattle.std.proofs.Common.{◌≡◌, ℕ, ℤ, zero, suc, ◌+◌, ◌-◌, ◌*◌, ◌<◌, ◌≤◌, ◌^◌, ◌%◌, ◌≢◌, lit≤, true, false, cond, List, [], ◌∷◌, ◌++◌, length, take, get_or, set, replicate, map, Option, Some, None, Result, Ok, Err, refl, sym, ap, ◌∙◌, arith, append_assoc, append-nil, is_some, get_or-set_other, length-set}
use Rattle.std.proofs.Math.Nat.{pow-le-pow_right, mod-eq_of_lt, pow-suc}
use Rattle.std.proofs.lemmas.List.{take_all}
use Rattle.std.specs.List.{range_with_len}
use Rattle.std.proofs.lemmas.List.Folds.{list_any_at, list_any_none}
use Rattle.std.proofs.lemmas.List.Elements.{All-from_get_or}
use Rattle.std.proofs.lemmas.List.FromFn.{length-range_with_len, get_or-range_with_len}
use Rattle.station_base.specs.declared.row.Row.{Row}
use Rattle.station_base.specs.CivilMinute.{CivilMinute}
use Rattle.station_base.specs.Fields.{field_count}
use Rattle.row_text.specs.declared.fault.RowFault.{RowFault}
use Rattle.row_text.specs.declared.fault.RowFault.TheVariants.{NoField, NotRising}
use Rattle.row_text.specs.Steps.{◌>>=◌}
use Rattle.row_text.specs.Words.{first_word, behind_word}
use Rattle.row_text.specs.FieldsTold.{ToldOfField, behind_name, told_by_word, told_from, onto_told, value_told, limits_told, is_told_limited, fault_behind_fields}
use Rattle.row_text.specs.RowOfLine.{row_behind_period, row_told}

-- the text goes on with the name of a field
pub fault_past : (text more : List ℕ) (field : ℕ) → field < field_count → behind_name field text ≡ Some more → fault_behind_fields text ≡ NotRising
unfolding fault_behind_fields
fault_past text more field small found =
    let same : get_or (range_with_len 0 field_count) field 0 ≡ field = omega (arith, get_or-range_with_len 0 field_count field 0 small) in
    let some : is_some (behind_name (get_or (range_with_len 0 field_count) field 0) text) ≡ true = rw (same, found) refl in
    rw (list_any_at (λ f. is_some (behind_name f text)) (range_with_len 0 field_count) field 0 (omega (arith, length-range_with_len 0 field_count)) some) refl

-- and with that of none
pub fault_none : (text : List ℕ) → ((field : ℕ) → field < field_count → behind_name field text ≡ None) → fault_behind_fields text ≡ NoField
unfolding fault_behind_fields
fault_none text none =
    rw (list_any_none (λ f. is_some (behind_name f text)) (range_with_len 0 field_count)
    (All-from_get_or (λ (f : ℕ). is_some (behind_name f text) ≡ false) (range_with_len 0 field_count) 0 (λ i within.
    let small : i < field_count = omega (arith, length-range_with_len 0 field_count) in
    let same : get_or (range_with_len 0 field_count) i 0 ≡ i = omega (arith, get_or-range_with_len 0 field_count i 0 small) in
    rw (same, none i small) refl))) refl

-- the row of what was read of the fields before a number, and of what is told from it on
abbrev pub row_on : CivilMinute → ℕ → List (Option ℤ) → ℕ → ℕ → Result (List ToldOfField) RowFault → Result Row RowFault
row_on stamp interval values limited index (Ok tolds) =
    Ok (record { stamp = stamp; interval = interval; values = take index values ++ map value_told tolds; limited = limited + limits_told index tolds })
row_on stamp interval values limited index (Err fault) = Err fault

-- one step of reading, by what it finds
pub told_step : (n index : ℕ) (text : List ℕ) → behind_name index text ≡ None → told_from (suc n) index text ≡ onto_told None (told_from n (index + 1) text)
unfolding told_from behind_name
told_step n index text none = rw none refl

pub told_step-some : (n index : ℕ) (text more : List ℕ) (told : Option ℤ) → behind_name index text ≡ Some more → told_by_word (first_word more) ≡ Ok told
    → told_from (suc n) index text ≡ onto_told (Some told) (told_from n (index + 1) (behind_word more))
unfolding told_from behind_name
told_step-some n index text more told found is = rw (found, is) refl

told_step-err : (n index : ℕ) (text more : List ℕ) (fault : RowFault) → behind_name index text ≡ Some more → told_by_word (first_word more) ≡ Err fault
    → told_from (suc n) index text ≡ Err fault
unfolding told_from behind_name
told_step-err n index text more fault found is = rw (found, is) refl

-- fields are left
left : (index : ℕ) → index < field_count → field_count - index ≡ suc (field_count - (index + 1))
left index small = omega arith

-- what is told of a field is kept
on_more : (stamp : CivilMinute) (interval : ℕ) (values more_values : List (Option ℤ)) (limited more_limited index : ℕ) (told : ToldOfField) (rest : Result (List ToldOfField) RowFault)
    → take (index + 1) more_values ≡ take index values ++ value_told told ∷ [] → more_limited ≡ limited + cond (is_told_limited told) (2 ^ index) 0
    → row_on stamp interval values limited index (onto_told told rest) ≡ row_on stamp interval more_values more_limited (index + 1) rest
on_more stamp interval values more_values limited more_limited index told (Err fault) kept bits = refl
on_more stamp interval values more_values limited more_limited index told (Ok tolds) kept bits =
    let front : take index values ++ value_told told ∷ map value_told tolds ≡ take (index + 1) more_values ++ map value_told tolds =
    sym (append_assoc (take index values) (value_told told ∷ []) (map value_told tolds)) ∙ ap (λ (xs : List (Option ℤ)). xs ++ map value_told tolds) (sym kept) in
    let sum : limited + (cond (is_told_limited told) (2 ^ index) 0 + limits_told (index + 1) tolds) ≡ more_limited + limits_told (index + 1) tolds = omega arith in
    rw (front, sum) refl

-- one more element
take_one-suc : (values : List (Option ℤ)) (index : ℕ) → index < length values → take (suc index) values ≡ take index values ++ get_or values index None ∷ []
take_one-suc [] index below = absurd (omega arith)
take_one-suc (value ∷ values) zero below = refl
take_one-suc (value ∷ values) (suc index) below = ap (λ (xs : List (Option ℤ)). value ∷ xs) (take_one-suc values index (omega arith))

take_set-suc : (values : List (Option ℤ)) (index : ℕ) (value : Option ℤ) → index < length values → take (suc index) (set values index value) ≡ take index values ++ value ∷ []
take_set-suc [] index new below = absurd (omega arith)
take_set-suc (value ∷ values) zero new below = refl
take_set-suc (value ∷ values) (suc index) new below = ap (λ (xs : List (Option ℤ)). value ∷ xs) (take_set-suc values index new (omega arith))

next : (index : ℕ) → index + 1 ≡ suc index
next index = omega arith

take_one : (values : List (Option ℤ)) (index : ℕ) → index < length values → take (index + 1) values ≡ take index values ++ get_or values index None ∷ []
take_one values index below = ap (λ (n : ℕ). take n values) (next index) ∙ take_one-suc values index below

take_set : (values : List (Option ℤ)) (index : ℕ) (value : Option ℤ) → index < length values → take (index + 1) (set values index value) ≡ take index values ++ value ∷ []
take_set values index value below = ap (λ (n : ℕ). take n (set values index value)) (next index) ∙ take_set-suc values index value below

module _ (stamp : CivilMinute) (interval : ℕ) (values : List (Option ℤ)) (limited index : ℕ) (text : List ℕ) (row : Result Row RowFault) (small : index < field_count) (long : length values ≡ field_count) (same : row_on stamp interval values limited index (told_from (field_count - index) index text) ≡ row) where
  -- nothing is told of the field
  pub step_none : get_or values index None ≡ None → behind_name index text ≡ None
      → row_on stamp interval values limited (index + 1) (told_from (field_count - (index + 1)) (index + 1) text) ≡ row
  step_none free none =
      let one : take (index + 1) values ≡ take index values ++ None ∷ [] = take_one values index (omega arith) ∙ ap (λ (v : Option ℤ). take index values ++ v ∷ []) free in
      sym (ap (row_on stamp interval values limited index) (ap (λ (n : ℕ). told_from n index text) (left index small) ∙ told_step (field_count - (index + 1)) index text none)
      ∙ on_more stamp interval values values limited limited index None (told_from (field_count - (index + 1)) (index + 1) text) one (omega arith))
      ∙ same

  -- its value, or that limits made it missing
  pub step_some : (more : List ℕ) (told : Option ℤ) → behind_name index text ≡ Some more → told_by_word (first_word more) ≡ Ok told
      → row_on stamp interval (set values index told) (limited + cond (is_told_limited (Some told)) (2 ^ index) 0) (index + 1) (told_from (field_count - (index + 1)) (index + 1) (behind_word more)) ≡ row
  step_some more told found is =
      sym (ap (row_on stamp interval values limited index) (ap (λ (n : ℕ). told_from n index text) (left index small) ∙ told_step-some (field_count - (index + 1)) index text more told found is)
      ∙ on_more stamp interval values (set values index told) limited (limited + cond (is_told_limited (Some told)) (2 ^ index) 0) index (Some told) (told_from (field_count - (index + 1)) (index + 1) (behind_word more)) (take_set values index told (omega arith)) refl)
      ∙ same

  -- no value
  pub step_err : (more : List ℕ) (fault : RowFault) → behind_name index text ≡ Some more → told_by_word (first_word more) ≡ Err fault → Err fault ≡ row
  step_err more fault found is =
      sym (ap (row_on stamp interval values limited index) (ap (λ (n : ℕ). told_from n index text) (left index small) ∙ told_step-err (field_count - (index + 1)) index text more fault found is))
      ∙ same

-- as the reading begins
pub row_begun : (stamp : CivilMinute) (interval : ℕ) (values : List (Option ℤ)) (text : List ℕ)
    → row_on stamp interval values 0 0 (told_from (field_count - 0) 0 text) ≡ row_behind_period stamp interval text
unfolding row_behind_period
row_begun stamp interval values text = go (told_from 37 0 text)
  where
    go : (told : Result (List ToldOfField) RowFault) → row_on stamp interval values 0 0 told ≡ told >>= (λ tolds. Ok (row_told stamp interval tolds))
    go (Err fault) = refl
    go (Ok tolds) = let none : 0 + limits_told 0 tolds ≡ limits_told 0 tolds = omega arith in rw none refl

-- as it ends
pub row_ended : (stamp : CivilMinute) (interval : ℕ) (values : List (Option ℤ)) (limited index : ℕ) (row : Result Row RowFault) (text : List ℕ) → index ≡ field_count → length values ≡ field_count → length text ≡ 0
    → row_on stamp interval values limited index (told_from (field_count - index) index text) ≡ row
    → Ok (record { stamp = stamp; interval = interval; values = values; limited = limited }) ≡ row
unfolding told_from
row_ended stamp interval values limited index row (byte ∷ text) end long none same = absurd (omega arith)
row_ended stamp interval values limited index row [] end long none same =
    let nothing : field_count - index ≡ 0 = omega arith in
    let all : take index values ++ [] ≡ values = append-nil (take index values) ∙ take_all index values (omega arith) in
    let sum : limited + 0 ≡ limited = omega arith in
    sym (rw (nothing, all, sum) refl) ∙ same

pub row_left : (stamp : CivilMinute) (interval : ℕ) (values : List (Option ℤ)) (limited index : ℕ) (text : List ℕ) (row : Result Row RowFault) → index ≡ field_count → 0 < length text
    → row_on stamp interval values limited index (told_from (field_count - index) index text) ≡ row
    → Err (fault_behind_fields text) ≡ row
unfolding told_from
row_left stamp interval values limited index [] row end some same = absurd (omega arith)
row_left stamp interval values limited index (byte ∷ text) row end some same =
    let nothing : field_count - index ≡ 0 = omega arith in
    sym (rw nothing refl) ∙ same

-- nothing was read yet
pub none_yet : (n k : ℕ) → get_or (replicate {A = Option ℤ} n None) k None ≡ None
none_yet zero k = refl
none_yet (suc n) zero = refl
none_yet (suc n) (suc k) = none_yet n k

-- what is left of the values has none
pub free_set : (values : List (Option ℤ)) (index : ℕ) (value : Option ℤ) → ((k : ℕ) → index ≤ k → get_or values k None ≡ None)
    → (k : ℕ) → index + 1 ≤ k → get_or (set values index value) k None ≡ None
free_set values index value free k above =
    let other : k ≢ index = omega arith in
    get_or-set_other values index k value None other ∙ free k (omega arith)

pub long_set : (values : List (Option ℤ)) (index : ℕ) (value : Option ℤ) → length values ≡ field_count → length (set values index value) ≡ field_count
long_set values index value long = length-set values index value ∙ long

-- the bits stay below the next one
pub small_next : (limited index : ℕ) → limited < 2 ^ index → limited < 2 ^ (index + 1)
small_next limited index small = omega (arith, pow-le-pow_right {n = 2} (lit≤ tt) {i = index} {j = index + 1} (omega arith))

pub small_sum : (limited index : ℕ) → limited < 2 ^ index → limited + 2 ^ index < 2 ^ (index + 1)
small_sum limited index small =
    let twice : 2 ^ (index + 1) ≡ 2 ^ index * 2 = ap (λ (n : ℕ). 2 ^ n) (next index) ∙ pow-suc 2 index in
    omega arith

-- a bit that 64 bits hold
pub bit_fits : (index : ℕ) → index < field_count → 1 * 2 ^ index % 2 ^ 64 ≡ 2 ^ index
bit_fits index small =
    let pow : 2 ^ index ≤ 2 ^ 36 = pow-le-pow_right {n = 2} (lit≤ tt) {i = index} {j = 36} (omega arith) in
    let same : 1 * 2 ^ index ≡ 2 ^ index = omega arith in
    mod-eq_of_lt (omega arith) ∙ same

-- the bit of a field that limits made missing, and of none that has a value
pub bits_none : (told : Option ℤ) (limited index : ℕ) → told ≡ None → limited + cond (is_told_limited (Some told)) (2 ^ index) 0 ≡ limited + 2 ^ index
bits_none told limited index none = rw none refl

pub bits_some : (told : Option ℤ) (limited index : ℕ) → (told ≡ None → ⊥) → limited + cond (is_told_limited (Some told)) (2 ^ index) 0 ≡ limited
bits_some None limited index some = absurd (some refl)
bits_some (Some value) limited index some = omega arith
