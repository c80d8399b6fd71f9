-- The records of a run.
use Rattle.std.specs.Prelude.{ℕ, zero, suc, List, [], ◌∷◌, Some, None}
use Rattle.std.specs.declared.option.Option.{Option}
use Rattle.archive_record.specs.MovedOn.{moved_on}

-- so many records from this one on, each a period after the one before, with the same values, as far as stamps go
abbrev pub run_from : ℕ → Option (List ℕ) → ℕ → List (List ℕ)
run_from period next zero = []
run_from period None (suc count) = []
run_from period (Some rec) (suc count) = rec ∷ run_from period (moved_on period rec) count
