-- Values that are named one after the other.
use Rattle.std.proofs.Common.{◌≡◌, ℕ, ℤ, Bool, true, false, Option, Some, None, List, ◌∷◌, refl, sym, ap}
use Rattle.std.specs.Prelude.{slice_index_or, slice_set, if◌then◌else◌}
use Rattle.station_base.specs.Fields.{field_named}
use Rattle.numerals.specs.Then.{◌>>=◌}
use Rattle.schedule_file.specs.Words.{Named, named_in}
use Rattle.schedule_file.specs.Forms.{with_named, all_named, named_values_in, none_taken, no_values}
use Rattle.schedule_file.specs.Naming.{named_on, values_on}
use Rattle.schedule_file.specs.declared.schedule.naming.Naming.{Naming}

-- a value under a name that is free
pub take_free : (naming : Naming) (name : List ℕ) (value : ℤ) (f : ℕ) → field_named name ≡ Some f → slice_index_or naming.taken f true ≡ false
    → (others : List Named)
    → named_on (record { known = naming.known; taken = slice_set naming.taken f true; values = slice_set naming.values f (Some value) }) others
    ≡ named_on naming (record { name = name; value = value } ∷ others)
take_free naming name value f named free others = rw (named, free) refl

-- under one that is taken
pub take_taken : (naming : Naming) (name : List ℕ) (value : ℤ) (f : ℕ) → field_named name ≡ Some f → slice_index_or naming.taken f true ≡ true
    → (others : List Named)
    → named_on (record { known = false; taken = naming.taken; values = naming.values }) others ≡ named_on naming (record { name = name; value = value } ∷ others)
take_taken naming name value f named taken others = rw (named, taken) (go naming.known)
  where
    go : (known : Bool) → ◌≡◌ {A = Option (List (Option ℤ))} None (if known then None else None)
    go true = refl
    go false = refl

-- under one that is no field's
pub take_unknown : (naming : Naming) (name : List ℕ) (value : ℤ) → field_named name ≡ None
    → (others : List Named)
    → named_on (record { known = false; taken = naming.taken; values = naming.values }) others ≡ named_on naming (record { name = name; value = value } ∷ others)
take_unknown naming name value none others = rw none (go naming.known)
  where
    go : (known : Bool) → ◌≡◌ {A = Option (List (Option ℤ))} None (if known then None else None)
    go true = refl
    go false = refl

-- a word more
pub word_more : (before now : Naming) (word : List ℕ) (named : Named) (words : List (List ℕ)) → named_in word ≡ Some named
    → ((others : List Named) → named_on now others ≡ named_on before (named ∷ others)) → values_on before (word ∷ words) ≡ values_on now words
word_more before now word named words read taken = rw read (go (all_named words))
  where
    go : (rest : Option (List Named)) → ((rest >>= (λ (others : List Named). Some (named ∷ others))) >>= (λ (all : List Named). Some (named_on before all)))
        ≡ (rest >>= (λ (others : List Named). Some (named_on now others)))
    go None = refl
    go (Some others) = ap Some (sym (taken others))

-- a word that names nothing
pub word_none : (before : Naming) (word : List ℕ) (words : List (List ℕ)) → named_in word ≡ None → values_on before (word ∷ words) ≡ None
word_none before word words none = rw none refl

-- at the start
pub words_start : (words : List (List ℕ)) (naming : Naming) → naming.known ≡ true → naming.taken ≡ none_taken → naming.values ≡ no_values
    → named_values_in words ≡ values_on naming words
unfolding named_values_in
words_start words naming known taken values = go (all_named words)
  where
    go : (all : Option (List Named)) → (all >>= (λ (named : List Named). Some (with_named named none_taken no_values))) ≡ (all >>= (λ (named : List Named). Some (named_on naming named)))
    go None = refl
    go (Some named) = rw (known, taken, values) refl
