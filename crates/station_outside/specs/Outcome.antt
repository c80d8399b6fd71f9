-- What the answer of one read or write of the system means.
use Rattle.std.specs.Prelude.{ℕ, ◌≡◌, ◌≤◌, ◌<◌, Result, Ok, IsErr}
use Rattle.station_outside.specs.declared.outcome.Outcome.{Outcome}
use Rattle.station_outside.specs.declared.outcome.Outcome.TheVariants.{Moved, Ended}

-- what was answered: a count is that of the bytes, a count of 0 an end, and all else an error
abbrev pub MeansBy : {E : Type 0} → Outcome → Result ℕ E → Type 0
MeansBy (Moved n) answer = (answer ≡ Ok n) × (0 < n)
MeansBy Ended answer = answer ≡ Ok 0
MeansBy other answer = IsErr answer

-- at least one byte went, and no more than there is room for
abbrev pub OutcomeIsWithin : Outcome → ℕ → Type 0
OutcomeIsWithin (Moved n) size = (1 ≤ n) × (n ≤ size)
OutcomeIsWithin other size = Unit {0}
