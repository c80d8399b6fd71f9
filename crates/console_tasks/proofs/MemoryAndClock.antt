-- The exchanges that read the memory and the clock.
use Rattle.std.proofs.Common.{◌≡◌, ◌≢◌, ℕ, ◌+◌, List, [], ◌∷◌, length, take, drop, refl, sym, ◌∙◌, ap, subst, Ok, Err}
use Rattle.std.specs.Prelude.{MatchResult}
use Rattle.std.specs.declared.result.Result.{Result}
use Rattle.serial_link.specs.declared.talk.TalkItem.{TalkItem}
use Rattle.vantage_frames.specs.declared.command.Command.TheVariants.{EepromRead, TimeGet}
use Rattle.station_base.specs.declared.clock.ClockTime.{ClockTime}
use Rattle.station_base.specs.ClockTime.{clock_bytes}
use Rattle.console_tasks.specs.declared.end.TaskEnd.{TaskEnd}
use Rattle.console_tasks.specs.declared.end.TaskEnd.TheVariants as task_end
use Rattle.console_tasks.specs.Exchange.{framed, ack_frame}
use Rattle.console_tasks.specs.Clock.{judge_clock}
use Rattle.console_tasks.specs.Memory.{judge_back}
use Rattle.console_tasks.specs.TaskTalk.{Exchanges, Fails}
use Rattle.console_tasks.specs.Tasks.{said_line, reading_memory, reading_back, asking_time}
use Rattle.console_tasks.specs.Parts.{EndsTask, FrameReplies, TaskCompletes}
use Rattle.console_tasks.proofs.Troubles.{IsTrouble, TellsTrouble}
use Rattle.console_tasks.proofs.WrittenAndRead.{back_trouble}
use Rattle.console_tasks.proofs.ExchangeReplies.{frame_done, frame_ends}

-- so many bytes of the memory were asked for, and answered so
abbrev pub MemoryReplies : ℕ → ℕ → List ℕ → Result (Unit {0}) TaskEnd → List TalkItem → Type 0
MemoryReplies at m answer r t = FrameReplies (said_line (EepromRead at m)) m answer r t

-- bytes of the memory are read
pub read_done : (at n m : ℕ) (answer into : List ℕ) (t : List TalkItem) → m ≡ n → length answer ≡ n + 3
    → into ≡ take n (drop 1 answer)
    → MemoryReplies at m answer (Ok tt) t → Exchanges (reading_memory at n) t (ack_frame into ∷ []) task_end.Done
read_done at n m answer into t e size i k =
    frame_done (said_line (EepromRead at n)) answer n (λ bytes. task_end.Done) into t size
    (subst (λ x. MemoryReplies at x answer (Ok tt) t) e k) refl (sym i)

pub read_fails : (at n m : ℕ) (answer : List ℕ) (end : TaskEnd) (t : List TalkItem) → m ≡ n
    → MemoryReplies at m answer (Err end) t → Fails (Exchanges (reading_memory at n)) end t
read_fails at n m answer end t e k = subst (λ x. Fails (Exchanges (reading_memory at x)) end t) e (k (λ bytes. task_end.Done) [])

-- what the comparing answers
abbrev pub IsCompared : ℕ → List ℕ → List ℕ → Result (Unit {0}) TaskEnd → Type 0
IsCompared at sent read r = MatchResult r (λ done. (judge_back at sent read ≡ task_end.Done) × (read ≡ sent))
    (λ end. (judge_back at sent read ≡ end) × (end ≢ task_end.Done))

pub compared_trouble : (at : ℕ) (sent read : List ℕ) (r : Result (Unit {0}) TaskEnd) → IsCompared at sent read r → TellsTrouble r
compared_trouble at sent read (Ok done) j = tt
compared_trouble at sent read (Err end) j = subst IsTrouble j.0 (back_trouble at sent read (λ d. j.1 (sym j.0 ∙ d)))

-- bytes are read back
pub back_finishes : (at m : ℕ) (sent answer read : List ℕ) (r : Result (Unit {0}) TaskEnd) (t : List TalkItem)
    → m ≡ length sent → length answer ≡ length sent + 3 → read ≡ take (length sent) (drop 1 answer)
    → IsCompared at sent read r → MemoryReplies at m answer (Ok tt) t
    → TaskCompletes (Exchanges (reading_back at sent ∷ [])) (λ done. ack_frame sent ∷ []) r t
back_finishes at m sent answer read (Ok done) t e size i j k =
    frame_done (said_line (EepromRead at (length sent))) answer (length sent) (judge_back at sent) sent t size
    (subst (λ x. MemoryReplies at x answer (Ok tt) t) e k) (ap (judge_back at sent) (sym i) ∙ j.0) (sym i ∙ j.1)
back_finishes at m sent answer read (Err end) t e size i j k =
    frame_ends (said_line (EepromRead at (length sent))) answer (length sent) (judge_back at sent) end t size
    (subst (λ x. MemoryReplies at x answer (Ok tt) t) e k) (ap (judge_back at sent) (sym i) ∙ j.0)
    (compared_trouble at sent read (Err end) j) []

pub back_fails : (at m : ℕ) (sent answer : List ℕ) (end : TaskEnd) (t : List TalkItem) → m ≡ length sent
    → MemoryReplies at m answer (Err end) t → Fails (Exchanges (reading_back at sent ∷ [])) end t
back_fails at m sent answer end t e k =
    (subst (λ x. EndsTask (framed (said_line (EepromRead at x)) x (judge_back at sent)) end t) e (k (judge_back at sent))) []

-- what the reading of a clock answers
abbrev pub IsClock : List ℕ → Result ClockTime TaskEnd → Type 0
IsClock bytes r = MatchResult r (λ time. (clock_bytes time ≡ bytes) × (judge_clock bytes ≡ task_end.Done))
    (λ end. (end ≡ task_end.BadValue) × (judge_clock bytes ≡ end))

pub clock_trouble : (bytes : List ℕ) (r : Result ClockTime TaskEnd) → IsClock bytes r → TellsTrouble r
clock_trouble bytes (Ok time) j = tt
clock_trouble bytes (Err end) j = subst IsTrouble (sym j.0) tt

pub clock_finishes : (answer bytes : List ℕ) (r : Result ClockTime TaskEnd) (t : List TalkItem) → length answer ≡ 9
    → bytes ≡ take 6 (drop 1 answer) → IsClock bytes r
    → FrameReplies (said_line TimeGet) 6 answer (Ok tt) t → TaskCompletes (Exchanges asking_time)
    (λ time. ack_frame (clock_bytes time) ∷ []) r t
clock_finishes answer bytes (Ok time) t size i j k =
    frame_done (said_line TimeGet) answer 6 judge_clock (clock_bytes time) t size k (ap judge_clock (sym i) ∙ j.1)
    (sym i ∙ sym j.0)
clock_finishes answer bytes (Err end) t size i j k =
    frame_ends (said_line TimeGet) answer 6 judge_clock end t size k (ap judge_clock (sym i) ∙ j.1)
    (clock_trouble bytes (Err end) j) []
