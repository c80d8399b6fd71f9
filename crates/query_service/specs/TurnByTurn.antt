-- What is heard and said in each turn.
use Rattle.std.specs.Prelude.{ℕ, ◌≡◌, List, ◌++◌}
use Rattle.serial_link.specs.Turns.{AreTurns, CameOfOneReceive, TurnsBreakOff}
use Rattle.serial_link.specs.declared.talk.TalkItem.{TalkItem}
use Rattle.station_base.specs.declared.row.Row.{Row}
use Rattle.wake_retry.specs.Bounds.{said}
use Rattle.wake_retry.specs.Parts.{heard}
use Rattle.query_service.specs.AnsweredLines.{AreAnswers, AnsweringBreaksOff}
use Rattle.query_service.specs.Lines.{lines_after, rest_after}
use Rattle.query_service.specs.Talk.{TalkOnlySays}
use Rattle.query_service.specs.declared.service.QueryEnd.{QueryEnd}
use Rattle.query_service.specs.declared.service.QueryEnd.TheVariants.{Done, LinkFault, DiskFault, OutOfMemory}

-- the bytes that one receive hears at most
abbrev pub query_room : ℕ
query_room = 256

-- One receive, and behind it what was said of it, with nothing heard meanwhile.
pub record HearsAndSays (t : List TalkItem) : Type 0 where
  pub received : List TalkItem
  pub answered : List TalkItem
  pub whole : t ≡ received ++ answered
  pub receives : CameOfOneReceive query_room received
  pub only_says : TalkOnlySays answered

-- A turn: the lines that end in what one receive hears are answered before the next one. The line that has begun before
-- it becomes the one behind it.
pub record IsTurn (rows : List Row) (begun : List ℕ) (t : List TalkItem) (rest : List ℕ) : Type 0 where
  pub talk : HearsAndSays t
  pub answers : AreAnswers rows (lines_after begun (heard talk.received)) (said talk.answered)
  pub rest_is : rest ≡ rest_after begun (heard talk.received)

-- A turn in which the answers broke off.
pub record TurnBreaksOff (rows : List Row) (begun : List ℕ) (t : List TalkItem) : Type 0 where
  pub talk : HearsAndSays t
  pub before : ℕ
  pub after : ℕ
  pub breaks : AnsweringBreaksOff rows (lines_after begun (heard talk.received)) (said talk.answered) before after

-- what is heard and said in so many turns, by the end: all of them were taken, or they broke off
abbrev pub TurnByTurn : QueryEnd → List Row → ℕ → List ℕ → List TalkItem → List ℕ → Type 0
TurnByTurn Done rows turns begun t rest = AreTurns (IsTurn rows) turns begun t rest
TurnByTurn LinkFault rows turns begun t rest = TurnsBreakOff (IsTurn rows) (TurnBreaksOff rows) turns begun t
TurnByTurn DiskFault rows turns begun t rest = TurnsBreakOff (IsTurn rows) (TurnBreaksOff rows) turns begun t
TurnByTurn OutOfMemory rows turns begun t rest = TurnsBreakOff (IsTurn rows) (TurnBreaksOff rows) turns begun t
