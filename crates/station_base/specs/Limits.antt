-- How much an archive holds, and how far its values may be from 0. It is this project's own.
use Rattle.std.specs.Prelude.{ℕ}

-- the rows of an archive, at most
abbrev pub most_rows : ℕ
most_rows = 1048576

-- how far a value may be from 0, in the unit of its field
abbrev pub farthest_value : ℕ
farthest_value = 2000000
