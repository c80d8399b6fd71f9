-- What is said to the lines that are heard.
use Rattle.std.specs.Prelude.{ℕ, ◌≡◌, ◌≤◌, ◌*◌, List, [], take}
use Rattle.causes.specs.Lists.{IsFrontOf}
use Rattle.causes.specs.Told.{WhereTold}
use Rattle.disk_model.specs.Medium.{Medium}
use Rattle.serial_link.specs.declared.talk.TalkItem.{TalkItem}
use Rattle.station_base.specs.declared.row.Row.{Row}
use Rattle.wake_retry.specs.Bounds.{said}
use Rattle.wake_retry.specs.Parts.{heard, count_met}
use Rattle.weather_book.specs.Stands.{StandsToReadOn}
use Rattle.weather_book.specs.declared.book.Book.{Book}
use Rattle.query_service.specs.AnsweredLines.{AnswersLines}
use Rattle.query_service.specs.Answers.{answer_to}
use Rattle.query_service.specs.Asked.{LineAsks}
use Rattle.query_service.specs.Lines.{lines_after, lines_in, rest_after}
use Rattle.query_service.specs.Talk.{TalkOnlySays}
use Rattle.query_service.specs.TurnByTurn.{TurnByTurn, query_room}
use Rattle.query_service.specs.declared.request.Request.{Request}
use Rattle.query_service.specs.declared.service.QueryEnd.{QueryEnd}
use Rattle.query_service.specs.declared.service.QueryEnd.TheVariants.{Done, LinkFault, DiskFault, OutOfMemory}

-- this holds of the rows where the disk tells its bytes and the book can be read there
abbrev pub WhereRead : {D : Type 0} → Medium D → Book → D → (List Row → Type 0) → Type 0
WhereRead medium book disk P =
    (rows : List Row) → StandsToReadOn medium book disk rows → WhereTold (medium.seen disk) (λ _. P rows)

-- All lines that end within what was heard are answered, or some in front where the service broke off. Each of so many
-- turns is one receive and then the answers to the lines that end in it.
pub record AnswersTurns {D : Type 0} (medium : Medium D) (book : Book) (disk : D) (end : QueryEnd) (turns lines : ℕ)
    (t : List TalkItem) : Type 0 where
  pub most : count_met t ≤ query_room * turns
  pub least : end ≡ Done → turns ≤ count_met t
  pub answers : WhereRead medium book disk (λ rows. AnswersLines end rows (lines_in (heard t)) (said t) 0 lines)
  pub turn_by_turn : WhereRead medium book disk (λ rows. (rest : List ℕ) × TurnByTurn end rows turns [] t rest)

-- The same where a line has begun, of which up to 65 bytes are held. So are they of the one that has begun afterwards.
pub record QueriesAreServed (end : QueryEnd) (rows : List Row) (begun came bytes line : List ℕ)
    (old new : ℕ) : Type 0 where
  pub answers : AnswersLines end rows (lines_after begun came) bytes old new
  pub held : end ≡ Done → line ≡ take 65 (rest_after begun came)

-- from whatever line has begun
abbrev pub ServesFrom : {D : Type 0} → Medium D → Book → D → QueryEnd → List ℕ → List ℕ → List ℕ → List ℕ → ℕ → ℕ
    → Type 0
ServesFrom medium book disk end came bytes before after old new =
    (begun : List ℕ) → before ≡ take 65 begun
    → WhereRead medium book disk (λ rows. QueriesAreServed end rows begun came bytes after old new)

-- the turns one by one, from whatever line has begun, and what is held behind them
abbrev pub TurnsFrom : {D : Type 0} → Medium D → Book → D → QueryEnd → ℕ → List ℕ → List ℕ → List TalkItem → Type 0
TurnsFrom medium book disk end turns before after t = (begun : List ℕ) → before ≡ take 65 begun
    → WhereRead medium book disk (λ rows. (rest : List ℕ) × TurnByTurn end rows turns begun t rest
    × (end ≡ Done → after ≡ take 65 rest))

-- so many turns were taken
pub record TakesTurns {D : Type 0} (medium : Medium D) (book : Book) (disk : D) (end : QueryEnd) (turns : ℕ)
    (before after : List ℕ) (old new : ℕ) (t : List TalkItem) : Type 0 where
  pub most : count_met t ≤ query_room * turns
  pub least : end ≡ Done → turns ≤ count_met t
  pub turn_by_turn : TurnsFrom medium book disk end turns before after t
  pub answers : ServesFrom medium book disk end (heard t) (said t) before after old new

-- these bytes had come before
pub record AnswersBytes {D : Type 0} (medium : Medium D) (book : Book) (disk : D) (end : QueryEnd) (came : List ℕ)
    (before after : List ℕ) (old new : ℕ) (t : List TalkItem) : Type 0 where
  pub only : TalkOnlySays t
  pub answers : ServesFrom medium book disk end came (said t) before after old new

-- all of the answer to a line was said, or a prefix of it
abbrev pub IsAnswer : List ℕ → QueryEnd → List ℕ → Type 0
IsAnswer answer Done bytes = bytes ≡ answer
IsAnswer answer LinkFault bytes = IsFrontOf bytes answer
IsAnswer answer DiskFault bytes = IsFrontOf bytes answer
IsAnswer answer OutOfMemory bytes = IsFrontOf bytes answer

-- one line was answered
pub record AnswersLine {D : Type 0} (medium : Medium D) (book : Book) (disk : D) (end : QueryEnd) (line : List ℕ)
    (t : List TalkItem) : Type 0 where
  pub only : TalkOnlySays t
  pub answers : WhereRead medium book disk (λ rows. (request : Request) × LineAsks line request
      × IsAnswer (answer_to rows request) end (said t))
