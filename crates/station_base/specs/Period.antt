-- The periods at which a console can write archive records.
use Rattle.std.specs.Prelude.{ℕ, ◌==◌, Bool, IsTrue, [], ◌∷◌}
use Rattle.std.specs.List.{list_any}

-- the minutes are one of those that a console can be set to (Davis serial manual, SETPER)
abbrev pub is_period : ℕ → Bool
is_period minutes = list_any (λ period. minutes == period) (1 ∷ 5 ∷ 10 ∷ 15 ∷ 30 ∷ 60 ∷ 120 ∷ [])

-- the minutes are a period of a console
abbrev pub IsPeriod : ℕ → Type 0
IsPeriod minutes = IsTrue (is_period minutes)
