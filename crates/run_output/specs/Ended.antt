-- How a command ended: with its last lines, or before it was done.
use Rattle.std.specs.Prelude.{ℕ, ◌≡◌, ◌⊎◌, List, [], ◌∷◌, Ok, Err}
use Rattle.std.specs.declared.result.Result.{Result}
use Rattle.arrayvec.specs.ArrayVec.{ArrayVec}
use Rattle.run_output.specs.declared.status.Status.{Status}
use Rattle.run_output.specs.declared.status.Status.TheVariants as ends
use Rattle.run_output.specs.Output.{Output}

-- what is written last, and the status
abbrev pub output_of : Result (ArrayVec ℕ) Output → Output
output_of (Ok text) = record { text = text.items; status = ends.Done }
output_of (Err output) = output

-- a step ended the run with this status
abbrev pub EndsBy : {A : Type 0} → Status → Result A Output → Type 0
EndsBy status (Ok a) = ⊥
EndsBy status (Err output) = output.status ≡ status

-- the last lines of a command that is done
abbrev pub Lines : Type 0
Lines = ArrayVec ℕ

-- the value is one of these
abbrev pub IsOneOf : {A : Type 0} → List A → A → Type 0
IsOneOf [] it = ⊥
IsOneOf (one ∷ []) it = it ≡ one
IsOneOf (one ∷ next ∷ more) it = (it ≡ one) ⊎ IsOneOf (next ∷ more) it

-- a step ended the run with one of these statuses
abbrev pub EndsAmong : {A : Type 0} → List Status → Result A Output → Type 0
EndsAmong statuses (Ok a) = ⊥
EndsAmong statuses (Err output) = IsOneOf statuses output.status
