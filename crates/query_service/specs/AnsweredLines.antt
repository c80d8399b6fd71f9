-- What is said to some lines, by how the service ends.
use Rattle.std.specs.Prelude.{ℕ, ◌≡◌, ◌+◌, ◌⊎◌, List, [], ◌∷◌, ◌++◌, length}
use Rattle.causes.specs.Lists.{IsFrontOf}
use Rattle.station_base.specs.declared.row.Row.{Row}
use Rattle.query_service.specs.Answers.{answer_to}
use Rattle.query_service.specs.Asked.{LineAsks}
use Rattle.query_service.specs.declared.request.Request.{Request}
use Rattle.query_service.specs.declared.service.QueryEnd.{QueryEnd}
use Rattle.query_service.specs.declared.service.QueryEnd.TheVariants.{Done, LinkFault, DiskFault, OutOfMemory}

-- these are the answers to the lines, in order
abbrev pub AreAnswers : List Row → List (List ℕ) → List ℕ → Type 0
AreAnswers rows [] bytes = bytes ≡ []
AreAnswers rows (line ∷ lines) bytes =
    (request : Request) × (rest : List ℕ) × LineAsks line request × (bytes ≡ answer_to rows request ++ rest)
    × AreAnswers rows lines rest

-- nothing, or a prefix of the answer to the first line
abbrev pub AnswerIsBegun : List Row → List (List ℕ) → List ℕ → Type 0
AnswerIsBegun rows [] bytes = bytes ≡ []
AnswerIsBegun rows (line ∷ lines) bytes =
    (bytes ≡ []) ⊎ ((request : Request) × LineAsks line request × IsFrontOf bytes (answer_to rows request))

-- The answers to some lines in front were said whole, and these lines are counted. Of the next answer a front was said.
pub record AnsweringBreaksOff (rows : List Row) (lines : List (List ℕ)) (bytes : List ℕ) (old new : ℕ) : Type 0 where
  pub met : List (List ℕ)
  pub ahead : List (List ℕ)
  pub split : met ++ ahead ≡ lines
  pub whole : List ℕ
  pub part : List ℕ
  pub bytes_are : bytes ≡ whole ++ part
  pub answers : AreAnswers rows met whole
  pub begun : AnswerIsBegun rows ahead part
  pub counted : new ≡ old + length met

-- what is said to the lines, and how a count of them goes up, by the end
abbrev pub AnswersLines : QueryEnd → List Row → List (List ℕ) → List ℕ → ℕ → ℕ → Type 0
AnswersLines Done rows lines bytes old new = AreAnswers rows lines bytes × (new ≡ old + length lines)
AnswersLines LinkFault rows lines bytes old new = AnsweringBreaksOff rows lines bytes old new
AnswersLines DiskFault rows lines bytes old new = AnsweringBreaksOff rows lines bytes old new
AnswersLines OutOfMemory rows lines bytes old new = AnsweringBreaksOff rows lines bytes old new
