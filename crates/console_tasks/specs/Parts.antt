-- What the parts of a task say and hear.
use Rattle.std.specs.Prelude.{◌≡◌, ℕ, ◌≤◌, true, false, List, [], ◌∷◌, ◌++◌, length, take, drop, Ok, Err}
use Rattle.std.specs.declared.result.Result.{Result}
use Rattle.crc_ccitt.specs.Check.{is_good}
use Rattle.loop_packet.specs.declared.packet.LoopPacket.{LoopPacket}
use Rattle.loop_packet.specs.Reading.{packet_bytes}
use Rattle.serial_link.specs.declared.talk.TalkItem.{TalkItem}
use Rattle.serial_link.specs.Talk.{message}
use Rattle.serial_link.specs.Traffic.{Traffic}
use Rattle.serial_link.specs.Link.{Talks}
use Rattle.wake_retry.specs.Parts.{heard, Still, Awaits, Wakes, answer_waits, wake_tries, settled_waits}
use Rattle.console_tasks.specs.declared.end.TaskEnd.{TaskEnd}
use Rattle.console_tasks.specs.declared.end.TaskEnd.TheVariants as task_end
use Rattle.vantage_frames.specs.Ack.{ack}
use Rattle.console_tasks.specs.Exchange.{Exchange, is_refusal, shows, answered_exchange, command, framed, ack_frame}
use Rattle.console_tasks.specs.TaskTalk.{Grammar, Exchanges, TaskTalk, Fails}
use Rattle.console_tasks.specs.Tasks.{packet}

-- what a step of a task did over a link, by its result: it said and heard what the part has
abbrev pub Steps : {L A : Type 0} → Traffic L → L → (Result A TaskEnd → List TalkItem → Type 0) → Result A TaskEnd
    → L → Type 0
Steps traffic old Part result new =
    Talks traffic old (Part result) (result ≡ Err task_end.LinkFault) (result ≡ Err task_end.OutOfMemory) new

-- the first of these exchanges, if any, awaits a byte
abbrev pub Awaiting : List Exchange → Type 0
Awaiting [] = Unit {0}
Awaiting (x ∷ more) = 1 ≤ x.size

-- The line settled, and then the console was awake.
pub record FindsAwake (t : List TalkItem) : Type 0 where
  pub settling : List TalkItem
  pub waking : List TalkItem
  pub split : t ≡ settling ++ waking
  pub still : Still settled_waits settling
  pub woke : Wakes wake_tries waking true

-- what a start says and hears: a console that is awake; or whatever the task, it ends so
abbrev pub Starts : Result (Unit {0}) TaskEnd → List TalkItem → Type 0
Starts (Ok done) t = FindsAwake t
Starts (Err end) t = (exchanges : List Exchange) → Awaiting exchanges → Fails (TaskTalk exchanges) end t

-- a message was answered by these bytes, which refuse nothing
pub record MessageIsAnswered (said answer : List ℕ) (t : List TalkItem) : Type 0 where
  pub reply : List TalkItem
  pub split : t ≡ message said ++ reply
  pub awaited : Awaits answer_waits (length answer) reply
  pub bytes : heard reply ≡ answer
  pub accepts : is_refusal answer ≡ false

-- the exchange ends a task so, whatever is behind it
abbrev pub EndsTask : Exchange → TaskEnd → List TalkItem → Type 0
EndsTask x end t = (more : List Exchange) → Fails (Exchanges (x ∷ more)) end t

-- what an exchange says and hears that 0x06 and more begin: the answer, or the end that it gives a task, however its
-- answer is judged
abbrev pub ExchangeReplies : List ℕ → ℕ → List ℕ → Result (Unit {0}) TaskEnd → List TalkItem → Type 0
ExchangeReplies said size answer (Ok done) t = MessageIsAnswered said answer t
ExchangeReplies said size answer (Err end) t =
    (judge : List ℕ → TaskEnd) → EndsTask (answered_exchange said size judge) end t

-- what a message says and hears that 0x06 alone answers
abbrev pub Commands : List ℕ → Result (Unit {0}) TaskEnd → List TalkItem → Type 0
Commands said (Ok done) t = MessageIsAnswered said ack t
Commands said (Err end) t = EndsTask (command said) end t

-- the same of n bytes and their check behind the 0x06
abbrev pub FrameReplies : List ℕ → ℕ → List ℕ → Result (Unit {0}) TaskEnd → List TalkItem → Type 0
FrameReplies said n answer (Ok done) t =
    MessageIsAnswered said answer t × (is_good (drop 1 answer) ≡ true) × (answer ≡ ack_frame (take n (drop 1 answer)))
FrameReplies said n answer (Err end) t = (judge : List ℕ → TaskEnd) → EndsTask (framed said n judge) end t

-- what the wait for a packet hears
abbrev pub HearsPacket : Result LoopPacket TaskEnd → List TalkItem → Type 0
HearsPacket (Ok read) t =
    Awaits 10 99 t × (heard t ≡ packet_bytes read) × (shows packet (packet_bytes read) ≡ task_end.Done)
HearsPacket (Err end) t = EndsTask packet end t

-- what the rest of a task says and hears: it is done, with the answers that go with what it gives; or it ends so
abbrev pub TaskCompletes : {A : Type 0} → Grammar → (A → List (List ℕ)) → Result A TaskEnd → List TalkItem → Type 0
TaskCompletes Talk answers (Ok given) t = Talk t (answers given) task_end.Done
TaskCompletes Talk answers (Err end) t = Fails Talk end t
