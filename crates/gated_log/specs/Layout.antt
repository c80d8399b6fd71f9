-- How many bytes stand where in an archive file. The layout is this project's own.
use Rattle.std.specs.Prelude.{ℕ, ◌+◌}

-- the bytes of a slot, and of the head before the first
abbrev pub slot_size : ℕ
slot_size = 176

-- the slots of a batch, at most: five rows, and thirteen summary slots before each
abbrev pub most_in_a_batch : ℕ
most_in_a_batch = 70

-- the slots of a log, at most
abbrev pub most_slots : ℕ
most_slots = 2097152

-- the bytes of an archive without slots: the head and a closed gate
abbrev pub empty_size : ℕ
empty_size = slot_size + 1
