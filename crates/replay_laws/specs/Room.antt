-- How much room a run takes.
use Rattle.std.specs.Prelude.{ℕ, ◌+◌, ◌*◌, ◌≤◌, List, [], ◌∷◌, length}
use Rattle.station_base.specs.declared.row.Row.{Row}
use Rattle.dmpaft_pump.specs.Keeper.{Handed, count}
use Rattle.station_session.specs.Batches.{all_records, kept_count, kept_records}
use Rattle.schedule_file.specs.Limits.{most_turns}
use Rattle.daily_summary.specs.Parts.{part_count}
use Rattle.gated_log.specs.Calls.{changes_in_a_batch}
use Rattle.replay_laws.specs.Keeping.{changes_in_an_opening}
use Rattle.replay_laws.specs.Schedule.{ReplayStep}

-- how many slots a record takes at most: its own, and those of the summary of a day before it
abbrev pub slots_in_a_record : ℕ
slots_in_a_record = part_count + 1

-- how many changes an opening or a round makes at most, beside the batches that it stores: those of an opening, and of
-- a batch that a stop cuts short
abbrev pub changes_in_a_turn : ℕ
changes_in_a_turn = changes_in_an_opening + changes_in_a_batch

-- how many changes all openings and rounds of a schedule make so
abbrev pub changes_of_turns : ℕ
changes_of_turns = changes_in_a_turn * most_turns

-- whether a step opens a session or makes a round, as a number
abbrev pub step_lines : ReplayStep → ℕ
step_lines (ReplayStep.Due rs) = 0
step_lines (ReplayStep.Idle n) = 0
step_lines (ReplayStep.Open stop) = 1
step_lines (ReplayStep.Round f left stop) = 1

-- how many steps open a session or make a round
abbrev pub lines : List ReplayStep → ℕ
lines [] = 0
lines (x ∷ xs) = step_lines x + lines xs

-- The batches of a round behind these rows, kept or not: none is empty, and with all of them there would be no more
-- rows than records.
pub record AreFew (records : ℕ) (rows : List Row) (steps : Handed) : Type 0 where
  pub few : length rows + length (all_records steps) ≤ records
  pub each : count steps ≤ length (all_records steps)
  pub kept : kept_count steps ≤ length (kept_records steps)
