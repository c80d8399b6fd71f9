-- What a line tells of a round.
use Rattle.std.specs.Prelude.{ℕ, ◌≡◌, false, List, ◌++◌, length, codes}
use Rattle.station_session.specs.Attempts.{page_count, skip_count}
use Rattle.replay_laws.specs.Round.{Ending, made_attempts}
use Rattle.replay_laws.specs.Replay.{Rounded, is_stop}
use Rattle.replay_laws.specs.Texts.{named_number, ending_text, rows_counted}
use Rattle.schedule_replay.specs.declared.round_line.RoundEnding.{RoundEnding}
use Rattle.schedule_replay.specs.declared.round_line.RoundEnding.TheVariants.{Done, GaveUp, Full, Stopped}
use Rattle.schedule_replay.specs.declared.round_line.RoundLine.{RoundLine}

-- an end in the words of a run
abbrev pub ending_of : RoundEnding → Ending
ending_of Done = Ending.Ok
ending_of GaveUp = Ending.GaveUp
ending_of Full = Ending.Full
ending_of (Stopped change) = Ending.Stopped change

-- the line as it is written
abbrev pub round_line_text : RoundLine → List ℕ
round_line_text line =
    named_number (codes "round ") line.number ++ codes " " ++ ending_text (ending_of line.end)
    ++ named_number (codes " attempts ") line.attempts ++ named_number (codes " pages ") line.pages
    ++ named_number (codes " skipped ") line.skipped ++ named_number (codes " harmed ") line.harmed
    ++ named_number (codes " acked ") line.acked ++ rows_counted (ending_of line.end) line.rows ++ codes "\n"

-- It tells of this round, of which so many rows had been written before. How many rows a stop left need not be known.
pub record RoundLineTells (line : RoundLine) (written : ℕ) (x : Rounded) : Type 0 where
  pub number : x.number ≡ line.number
  pub end : x.end ≡ ending_of line.end
  pub attempts : length x.tried ≡ line.attempts
  pub pages : page_count (made_attempts x.tried) ≡ line.pages
  pub skipped : skip_count (made_attempts x.tried) ≡ line.skipped
  pub harmed : x.harmed ≡ line.harmed
  pub acked : length x.kept ≡ line.acked
  pub rows : is_stop x.end ≡ false → length x.rows ≡ line.rows
  pub written_is : x.written ≡ written
