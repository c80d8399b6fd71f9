-- What a line tells of a round.
use Rattle.std.proofs.Common.{◌≡◌, ◌≢◌, ℕ, false, length, codes, refl, ap}
use Rattle.replay_laws.specs.Round.{Ending}
use Rattle.replay_laws.specs.Replay.{Rounded, is_stop}
use Rattle.replay_laws.specs.Texts.{named_number, round_line, rows_text_behind, rows_counted, rows_text}
use Rattle.schedule_replay.specs.RoundLine.{RoundLineTells, ending_of, round_line_text}
use Rattle.schedule_replay.specs.declared.round_line.RoundEnding.{RoundEnding}
use Rattle.schedule_replay.specs.declared.round_line.RoundEnding.TheVariants.{Done, GaveUp, Full, Stopped}
use Rattle.schedule_replay.specs.declared.round_line.RoundLine.{RoundLine}

-- the number of rows counts only where the round was not stopped
rows_same : (end : Ending) (n m : ℕ) → (is_stop end ≡ false → n ≡ m) → rows_counted end n ≡ rows_counted end m
rows_same Ending.Ok n m same = ap (named_number (codes " rows ")) (same refl)
rows_same Ending.GaveUp n m same = ap (named_number (codes " rows ")) (same refl)
rows_same Ending.Full n m same = ap (named_number (codes " rows ")) (same refl)
rows_same (Ending.Stopped k) n m same = refl

-- it is the line of the round that it tells of
pub told_line : (line : RoundLine) (written : ℕ) (x : Rounded) → RoundLineTells line written x → round_line_text line ≡ round_line x
told_line line written x tells =
    let rows : rows_counted x.end (length x.rows) ≡ rows_counted x.end line.rows = rows_same x.end (length x.rows) line.rows tells.rows in
    cc

-- the rows behind it
pub rows_are_behind : (end : Ending) (x : Rounded) → is_stop end ≡ false → rows_text_behind end x ≡ rows_text x.written x.rows
rows_are_behind Ending.Ok x goes = refl
rows_are_behind Ending.GaveUp x goes = refl
rows_are_behind Ending.Full x goes = refl
rows_are_behind (Ending.Stopped k) x goes = absurd cc

pub not_stopped : (end : RoundEnding) → ((k : ℕ) → end ≢ Stopped k) → is_stop (ending_of end) ≡ false
not_stopped Done is = refl
not_stopped GaveUp is = refl
not_stopped Full is = refl
not_stopped (Stopped k) is = absurd (is k refl)
