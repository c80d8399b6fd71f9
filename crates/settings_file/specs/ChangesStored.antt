-- How the changes of a file are held: 16 places, of which the first are taken, and the others blank.
use Rattle.std.specs.Prelude.{ℕ, ◌≡◌, ◌≤◌, ◌-◌, ◌++◌, List, length, take, replicate}
use Rattle.settings_file.specs.declared.change.Change.{Change}
use Rattle.settings_file.specs.Changes.{AreChanges, blank_change}

-- So many changes stand in the first of 16 places, and the other places are blank.
pub record AreStored (count : ℕ) (all : List Change) : Type 0 where
  pub taken : count ≤ 16
  pub room : length all ≡ 16
  pub blank : all ≡ take count all ++ replicate (16 - count) blank_change
  pub valid : AreChanges (take count all)
