-- A meaning that need not be told.
use Rattle.std.specs.Prelude.{◌≡◌, Option, Some, None}

-- something holds of the value, if that is told
abbrev pub WhereTold : {A : Type 0} → Option A → (A → Type 0) → Type 0
WhereTold told P = (x : _) → told ≡ Some x → P x

-- the value after a change, where it is told
abbrev pub map_told : {A : Type 0} → (A → A) → Option A → Option A
map_told f None = None
map_told f (Some x) = Some (f x)
