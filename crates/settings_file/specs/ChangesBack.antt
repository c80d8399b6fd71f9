-- The places from which the changes of a file come back.
use Rattle.std.proofs.Common.{◌≡◌, ℕ, ◌-◌, ◌++◌, List, length, take, replicate, length-take-le, sym, arith}
use Rattle.settings_file.specs.declared.change.Change.{Change}
use Rattle.settings_file.specs.Changes.{blank_change}
use Rattle.settings_file.specs.ChangesStored.{AreStored}

-- as many changes are taken as are counted (a proof)
pub count_back : (count : ℕ) (all : List Change) → AreStored count all → length (take count all) ≡ count
count_back count all stored = length-take-le count all (omega (arith, stored.taken, stored.room))

-- the changes that are taken, and blank ones, are all 16 places (a proof)
pub places_back : (count : ℕ) (all : List Change) → AreStored count all
    → take count all ++ replicate (16 - length (take count all)) blank_change ≡ all
places_back count all stored = rw (count_back count all stored) (sym stored.blank)
