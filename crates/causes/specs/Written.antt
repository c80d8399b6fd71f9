-- What one who tells the bytes that he holds has after a write, or after several.
use Rattle.std.specs.Prelude.{ℕ, ◌≡◌, List, ◌++◌}
use Rattle.std.specs.declared.option.Option.{Option}
use Rattle.std.specs.Io.KnownBytes.{Appends}

-- A prefix of `all` was written, and `left` is what is left of it.
pub record Leaves (old new : Option (List ℕ)) (all left : List ℕ) : Type 0 where
  pub written : List ℕ
  pub appended : Appends old new written
  pub whole : written ++ left ≡ all

-- a prefix of the bytes was written
pub record WritesPart (old new : Option (List ℕ)) (all : List ℕ) : Type 0 where
  pub left : List ℕ
  pub leaves : Leaves old new all left
