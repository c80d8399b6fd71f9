-- Words about lists: a prefix of another list, and bytes.
use Rattle.std.specs.Prelude.{ℕ, ◌≡◌, ◌<◌, List, ◌++◌}
use Rattle.std.proofs.Common.{get_or}

-- the list is a prefix of the other: with some rest behind it, it is the whole
abbrev pub IsFrontOf : {A : Type 0} → List A → List A → Type 0
IsFrontOf {A} front whole = (rest : List A) × (front ++ rest ≡ whole)

-- each number is below 256
abbrev pub AreBytes : List ℕ → Type 0
AreBytes bytes = (i : ℕ) → get_or bytes i 0 < 256
