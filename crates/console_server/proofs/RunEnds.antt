-- Where a run ends.
use Rattle.std.proofs.Common.{◌≡◌, ℕ, List, [], Option, Some, None, refl}
use Rattle.console_server.specs.Runs.{run_from}

-- of a run no record is left
pub none_left : (period : ℕ) (next : Option (List ℕ)) → run_from period next 0 ≡ []
none_left period None = refl
none_left period (Some rec) = refl
