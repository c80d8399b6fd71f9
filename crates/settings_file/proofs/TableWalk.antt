-- A walk over a table, at any of its keys.
use Rattle.std.proofs.Common.{◌≡◌, ℕ, Option, Ok, Err, List, sym, ◌∙◌}
use Rattle.toml.specs.Data.{Data, Members, no_members, member}
use Rattle.settings_file.specs.declared.fault.Section.{Section}
use Rattle.settings_file.specs.declared.fault.SettingsFault.{SettingsFault}
use Rattle.settings_file.specs.declared.key_place.KeyPlace.{KeyPlace}
use Rattle.settings_file.specs.KeyPlace.{key_at}
use Rattle.settings_file.specs.Walk.{Fill, walk}

-- the walk has come to a key, and from here it gives what it gives from the start
pub record HasWalked {A : Type 0} (fill : Fill A) (section : Section) (field : Option ℕ) (all left : Members) (start now : A) (at : KeyPlace) : Type 0 where
  pub place : ℕ
  pub at_place : at ≡ key_at section field place
  pub same : walk fill section field 0 all start ≡ walk fill section field place left now

module _ {A : Type 0} (fill : Fill A) (section : Section) (field : Option ℕ) where
  -- with no key left the walk is over
  pub walk-ends : {all : Members} {start now : A} {at : KeyPlace}
      → HasWalked fill section field all no_members start now at → Ok now ≡ walk fill section field 0 all start
  walk-ends walked = sym walked.same

  -- a key with a fault ends the walk there
  pub walk-stops : {all rest : Members} {key : List ℕ} {value : Data} {start now : A} {at : KeyPlace} (fault : SettingsFault)
      → HasWalked fill section field all (member key value rest) start now at → fill at key value now ≡ Err fault
      → Err fault ≡ walk fill section field 0 all start
  walk-stops fault walked stopped = sym (walked.same ∙ rw (← walked.at_place, stopped))
