-- What tests that passed say.
use Rattle.std.proofs.Common.{◌≡◌, Bool, true, false, refl}
use Rattle.std.specs.Prelude.{Some, None, if◌then◌else◌, option_and_then}
use Rattle.std.specs.declared.option.Option.{Option}
use Rattle.numerals.specs.Then.{only_if}

-- the value is there, so its test passed
pub only_if_some : {A : Type 0} (passes : Bool) (value found : A) → (if passes then Some value else None) ≡ Some found → (passes ≡ true) × (value ≡ found)
only_if_some true value found is = (refl, cc)
only_if_some false value found is = (cc, cc)

-- what was made of the value, was made of one that is there
pub bind_some : {A B : Type 0} (value : Option A) (f : A → Option B) (found : B) → option_and_then f value ≡ Some found → (x : A) × (value ≡ Some x) × (f x ≡ Some found)
bind_some None f found is = cc
bind_some (Some x) f found is = (x, refl, is)

-- the value passes
pub passes : {A : Type 0} (test : Bool) (value : A) → test ≡ true → only_if test value ≡ Some value
passes test value passed = rw passed
