-- What a console's packet is to a task.
use Rattle.std.specs.Prelude.{ℕ, ◌==◌, ◌&&◌, if◌then◌else◌, Bool, List, [], ◌∷◌}
use Rattle.std.specs.Prelude.{codes, take, drop, slice_index, bytes_eq}
use Rattle.crc_ccitt.specs.Check.{is_good}
use Rattle.console_tasks.specs.declared.end.TaskEnd.{TaskEnd}
use Rattle.console_tasks.specs.declared.end.TaskEnd.TheVariants.{Done, BadCheck}

-- the bytes are a packet: its mark, its type, its end and its check are good
abbrev pub is_packet : List ℕ → Bool
is_packet bytes =
    bytes_eq (take 3 bytes) (codes "LOO") && (slice_index bytes 4 == 0)
    && bytes_eq (take 2 (drop 95 bytes)) (10 ∷ 13 ∷ []) && is_good bytes

-- the end that 99 bytes show
abbrev pub judge_packet : List ℕ → TaskEnd
judge_packet bytes = if is_packet bytes then Done else BadCheck
