-- What is said and heard at one step of a task. (The messages and their answers go by the Davis serial manual; the
-- waits, and which byte refuses a message, are this project's profile.)
use Rattle.std.specs.Prelude.{ℕ, ◌+◌, ◌==◌, ◌&&◌, not, nat_lt, if◌then◌else◌, Bool, true, false}
use Rattle.std.specs.Prelude.{List, [], ◌∷◌, length, take, drop, slice_index}
use Rattle.crc_ccitt.specs.Check.{is_good, sealed}
use Rattle.wake_retry.specs.Parts.{answer_waits}
use Rattle.console_tasks.specs.declared.end.TaskEnd.{TaskEnd}
use Rattle.console_tasks.specs.declared.end.TaskEnd.TheVariants.{Done, Refused, Short, BadCheck}

-- One exchange of a task: the message, or none; how many bytes answer it; whether they begin with 0x06; and which end
-- a whole answer shows, Done where it has no trouble.
pub record Exchange : Type 0 where
  pub said : List ℕ
  pub size : ℕ
  pub begins : Bool
  pub judge : List ℕ → TaskEnd

-- so many quiet waits in a row end the wait for an answer: three where it begins with 0x06, and else ten
abbrev pub quiets_for : Bool → ℕ
quiets_for true = answer_waits
quiets_for false = 10

-- the answer begins with another byte than 0x06
abbrev pub is_refusal : List ℕ → Bool
is_refusal [] = false
is_refusal (b ∷ bs) = not (b == 6)

-- the end that an answer shows, by whether it refuses and whether it is short: the first trouble in this order
abbrev pub end_by : Bool → Bool → List ℕ → TaskEnd → TaskEnd
end_by true short answer whole = Refused (slice_index answer 0)
end_by false true answer whole = Short (length answer)
end_by false false answer whole = whole

-- the end that an answer shows
abbrev pub shows : Exchange → List ℕ → TaskEnd
shows x answer = end_by (x.begins && is_refusal answer) (nat_lt (length answer) x.size) answer (x.judge answer)

-- a message that so many bytes answer, the first of them 0x06
abbrev pub answered_exchange : List ℕ → ℕ → (List ℕ → TaskEnd) → Exchange
answered_exchange said size judge = record { said = said; size = size; begins = true; judge = judge }

-- a message that 0x06 alone answers
abbrev pub command : List ℕ → Exchange
command said = answered_exchange said 1 (λ answer. Done)

-- the end that bytes with their check behind them show: the check is judged first
abbrev pub checked_end : ℕ → (List ℕ → TaskEnd) → List ℕ → TaskEnd
checked_end n judge frame = if is_good frame then judge (take n frame) else BadCheck

-- a message that 0x06, n bytes and their check answer
abbrev pub framed : List ℕ → ℕ → (List ℕ → TaskEnd) → Exchange
framed said n judge = answered_exchange said (n + 3) (λ answer. checked_end n judge (drop 1 answer))

-- the answer of 0x06, bytes and their check
abbrev pub ack_frame : List ℕ → List ℕ
ack_frame bytes = 6 ∷ sealed bytes
