-- How long a schedule is at most. It is this project's own.
use Rattle.std.specs.Prelude.{ℕ}

-- the records of a schedule, at most
abbrev pub most_records : ℕ
most_records = 20000

-- the openings and rounds of a schedule, at most
abbrev pub most_turns : ℕ
most_turns = 200

-- the records that may fall due within a round, at most
abbrev pub most_mids : ℕ
most_mids = 64
