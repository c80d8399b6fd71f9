-- The walk over the changes of a file, at any of them.
use Rattle.std.proofs.Common.{◌≡◌, ℕ, ◌+◌, ◌<◌, ◌≤◌, Bool, true, false, nat_lt, List, [], ◌∷◌, ◌++◌, length, map, drop, get_or, Some, Ok, Err, refl, ap, sym, ◌∙◌, arith}
use Rattle.std.proofs.lemmas.List.{drop_more, drop_all, length-map, get_or-map}
use Rattle.std.proofs.lemmas.Bool.Decides.{nat_tests}
use Rattle.toml.specs.Data.{Data, array, Items, as_array, string, integer, float, boolean, datetime, table}
use Rattle.toml.specs.View.{view, items_of, items_view}
use Rattle.toml.specs.declared.value.Value.{Value}
use Rattle.settings_file.specs.declared.fault.SettingsFault.{SettingsFault}
use Rattle.settings_file.specs.declared.fault.SettingsFault.TheVariants.{TooManyChanges}
use Rattle.settings_file.specs.declared.key_place.KeyPlace.{KeyPlace}
use Rattle.settings_file.specs.declared.change.Change.{Change}
use Rattle.settings_file.specs.Values.{tables_of, members_of}
use Rattle.settings_file.specs.Changes.{last_start}
use Rattle.settings_file.specs.ChangesRead.{change_of, changes_from, changes_of, at_most_16}

members_back : (ds : List Data) → members_of (items_of ds) ≡ ds
members_back [] = refl
members_back (d ∷ ds) = ap (λ xs. d ∷ xs) (members_back ds)

tables_in : (at : KeyPlace) (d : Data) (items : Items) → as_array d ≡ Some items → tables_of at d ≡ Ok (members_of items)
tables_in at (array values) items is = let same : values ≡ items = cc in rw same refl
tables_in at (string s) items is = cc
tables_in at (integer s) items is = cc
tables_in at (float s) items is = cc
tables_in at (boolean s) items is = cc
tables_in at (datetime s) items is = cc
tables_in at (table s) items is = cc

-- the tables of an array of values
tables_are : (at : KeyPlace) (d : Data) (values : List Value) → as_array d ≡ Some (items_view values) → tables_of at d ≡ Ok (map view values)
tables_are at d values is = tables_in at d (items_view values) is ∙ ap (λ (ds : List Data). Ok ds) (members_back (map view values))

few_by : (ds : List Data) (b : Bool) → nat_lt 16 (length ds) ≡ b → 16 < length ds → at_most_16 ds ≡ Err TooManyChanges
few_by ds true is more = rw is refl
few_by ds false is more = absurd (grind (arith, nat_tests))

many_by : (ds : List Data) (b : Bool) → nat_lt 16 (length ds) ≡ b → length ds ≤ 16 → at_most_16 ds ≡ Ok ds
many_by ds false is few = rw is refl
many_by ds true is few = absurd (grind (arith, nat_tests))

-- too many are refused before they are walked
pub changes_of-many : (at : KeyPlace) (d : Data) (values : List Value) → as_array d ≡ Some (items_view values) → 16 < length values
    → changes_of at d ≡ Err TooManyChanges
changes_of-many at d values is more =
    let long : length (map view values) ≡ length values = length-map values view in
    rw (tables_are at d values is, few_by (map view values) (nat_lt 16 (length (map view values))) refl (omega (arith, long))) refl

-- and else they are walked from the first
pub changes_of-walked : (at : KeyPlace) (d : Data) (values : List Value) → as_array d ≡ Some (items_view values) → length values ≤ 16
    → changes_of at d ≡ changes_from at [] (map view values)
changes_of-walked at d values is few =
    let long : length (map view values) ≡ length values = length-map values view in
    rw (tables_are at d values is, many_by (map view values) (nat_lt 16 (length (map view values))) refl (omega (arith, long))) refl

module _ (at : KeyPlace) (changes : List Change) (values : List Value) (i : ℕ) (x : Value) (within : i < length values) (is : x ≡ get_or values i x) where
  next : changes_from at changes (drop i (map view values)) ≡ changes_from at changes (view x ∷ drop (i + 1) (map view values))
  next =
      let long : length (map view values) ≡ length values = length-map values view in
      let here : get_or (map view values) i (view x) ≡ view x = get_or-map view values i x (view x) within ∙ ap view (sym is) in
      ap (changes_from at changes) (drop_more (map view values) i (view x) (omega (arith, long)) ∙ ap (λ (d : Data). d ∷ drop (i + 1) (map view values)) here)

  -- with one more change the walk goes on
  pub walk-goes : (change : Change) → change_of at (length changes) (last_start changes) (view x) ≡ Ok change
      → changes_from at changes (drop i (map view values)) ≡ changes_from at (changes ++ change ∷ []) (drop (i + 1) (map view values))
  walk-goes change good = next ∙ rw good refl

  -- with a fault it ends
  pub walk-faults : (fault : SettingsFault) → change_of at (length changes) (last_start changes) (view x) ≡ Err fault
      → changes_from at changes (drop i (map view values)) ≡ Err fault
  walk-faults fault bad = next ∙ rw bad refl

-- with no value left it is over
pub walk-over : (at : KeyPlace) (changes : List Change) (values : List Value) (i : ℕ) → length values ≤ i
    → changes_from at changes (drop i (map view values)) ≡ Ok changes
walk-over at changes values i all =
    let long : length (map view values) ≡ length values = length-map values view in
    rw (drop_all i (map view values) (omega (arith, long))) refl
