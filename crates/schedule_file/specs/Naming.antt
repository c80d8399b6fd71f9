-- Values that are named one after the other.
use Rattle.std.specs.Prelude.{ℕ, ℤ, if◌then◌else◌, List, Some, None}
use Rattle.std.specs.declared.option.Option.{Option}
use Rattle.numerals.specs.Then.{◌>>=◌}
use Rattle.schedule_file.specs.declared.schedule.naming.Naming.{Naming}
use Rattle.schedule_file.specs.Words.{Named}
use Rattle.schedule_file.specs.Forms.{all_named, with_named}

-- the values when those of further names are taken
abbrev pub named_on : Naming → List Named → Option (List (Option ℤ))
named_on naming others = if naming.known then with_named others naming.taken naming.values else None

-- the same with the words that name them
abbrev pub values_on : Naming → List (List ℕ) → Option (Option (List (Option ℤ)))
values_on naming words = do
  named ← all_named words
  Some (named_on naming named)
