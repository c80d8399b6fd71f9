-- Readings one after another, each of which may find nothing.
use Rattle.std.specs.Prelude.{Bool, if◌then◌else◌, Some, None, option_and_then}
use Rattle.std.specs.declared.option.Option.{Option}

infixl 10 ◌>>=◌
-- what is made of the value, where there is one
abbrev pub ◌>>=◌ : {A B : Type 0} → Option A → (A → Option B) → Option B
o >>= f = option_and_then f o

-- the value, where it passes
abbrev pub only_if : {A : Type 0} → Bool → A → Option A
only_if passes value = if passes then Some value else None
