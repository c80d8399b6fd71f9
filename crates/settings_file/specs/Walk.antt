-- A walk over the keys of a table, up to the first fault. A document has its keys in the order of their bytes, as the
-- crate `toml` inserts each at its place (this project's profile).
use Rattle.std.specs.Prelude.{ℕ, ◌+◌, List, Option, Result, Ok, Err}
use Rattle.toml.specs.Data.{Data, Members, no_members, member}
use Rattle.settings_file.specs.declared.fault.Section.{Section}
use Rattle.settings_file.specs.declared.fault.SettingsFault.{SettingsFault}
use Rattle.settings_file.specs.declared.key_place.KeyPlace.{KeyPlace}
use Rattle.settings_file.specs.KeyPlace.{key_at}

-- a step, and the next one with what it gave
infixl 10 ◌>>=◌
abbrev pub ◌>>=◌ : {A B : Type 0} → Result A SettingsFault → (A → Result B SettingsFault) → Result B SettingsFault
Ok x >>= f = f x
Err fault >>= f = Err fault

-- what a key and its value make of what the keys before made
abbrev pub Fill : Type 0 → Type 0
Fill A = KeyPlace → List ℕ → Data → A → Result A SettingsFault

-- what the keys of a table make, of which the first stands at this place
abbrev pub walk : {A : Type 0} → Fill A → Section → Option ℕ → ℕ → Members → A → Result A SettingsFault
walk fill section field place no_members filled = Ok filled
walk fill section field place (member key value rest) filled =
    fill (key_at section field place) key value filled >>= walk fill section field (place + 1) rest
