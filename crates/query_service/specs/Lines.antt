-- The lines of what is heard. A line feed alone ends a line.
use Rattle.std.specs.Prelude.{ℕ, ◌==◌, if◌then◌else◌, List, [], ◌∷◌, ◌++◌}

-- the lines that end within some bytes, where the first has begun with others; each without its line feed
abbrev pub lines_after : List ℕ → List ℕ → List (List ℕ)
lines_after begun [] = []
lines_after begun (b ∷ bytes) = if b == 10 then begun ∷ lines_after [] bytes else lines_after (begun ++ b ∷ []) bytes

-- the line that has begun behind them
abbrev pub rest_after : List ℕ → List ℕ → List ℕ
rest_after begun [] = begun
rest_after begun (b ∷ bytes) = if b == 10 then rest_after [] bytes else rest_after (begun ++ b ∷ []) bytes

-- the lines that end within some bytes
abbrev pub lines_in : List ℕ → List (List ℕ)
lines_in bytes = lines_after [] bytes
