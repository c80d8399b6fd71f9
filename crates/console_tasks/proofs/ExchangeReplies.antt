-- What an answer is to an exchange.
use Rattle.std.proofs.Common.{◌≡◌, ℕ, ◌+◌, ◌-◌, ◌<◌, ◌==◌, ◌&&◌, not, nat_lt, Bool, true, false, List, [], ◌∷◌, ◌++◌, length}
use Rattle.std.proofs.Common.{length-drop, drop, take, refl, sym, ◌∙◌, ap, subst, inl, inr, arith, Ok, Err}
use Rattle.std.proofs.Math.Seq.{take-length}
use Rattle.std.proofs.lemmas.Bool.{lt-ltb}
use Rattle.std.specs.Prelude.{slice_index, MatchResult, if◌then◌else◌}
use Rattle.std.specs.declared.result.Result.{Result}
use Rattle.crc_ccitt.specs.Check.{is_good, sealed}
use Rattle.serial_link.specs.declared.talk.TalkItem.{TalkItem}
use Rattle.serial_link.specs.Talk.{message}
use Rattle.wake_retry.specs.Parts.{heard, IsFull, IsShort, answer_waits}
use Rattle.console_tasks.specs.declared.end.TaskEnd.{TaskEnd}
use Rattle.console_tasks.specs.declared.end.TaskEnd.TheVariants as task_end
use Rattle.vantage_frames.specs.Ack.{ack}
use Rattle.console_tasks.specs.Exchange.{is_refusal, end_by, shows, answered_exchange, checked_end, framed, ack_frame}
use Rattle.console_tasks.specs.TaskTalk.{Exchanges}
use Rattle.console_tasks.specs.Parts.{MessageIsAnswered, EndsTask, ExchangeReplies, Commands, FrameReplies}
use Rattle.console_tasks.proofs.Troubles.{IsTrouble, TellsTrouble, short_trouble}
use Rattle.console_tasks.proofs.Onward.{answer_fails, answered_ends}
use Rattle.console_tasks.proofs.FinishedTasks.{last_done}

-- what a whole answer is known to be
abbrev pub IsJudged : List ℕ → Result (Unit {0}) TaskEnd → Type 0
IsJudged answer r = MatchResult r (λ done. is_refusal answer ≡ false)
    (λ end. (is_refusal answer ≡ true) × (end ≡ task_end.Refused (slice_index answer 0)))

end_refused : (r s : Bool) (answer : List ℕ) (whole : TaskEnd) → r ≡ true
    → end_by r s answer whole ≡ task_end.Refused (slice_index answer 0)
end_refused r s answer whole a = rw a refl

pub judged_trouble : (answer : List ℕ) (r : Result (Unit {0}) TaskEnd) → IsJudged answer r → TellsTrouble r
judged_trouble answer (Ok done) j = tt
judged_trouble answer (Err end) j = subst IsTrouble (sym j.1) tt

-- a whole answer, judged by its first byte
pub full_replies : (said answer : List ℕ) (r : Result (Unit {0}) TaskEnd) (t u : List TalkItem) → t ≡ message said ++ u
    → IsFull answer_waits 0 u → heard u ≡ answer → IsJudged answer r
    → ExchangeReplies said (length answer) answer r t
full_replies said answer (Ok done) t u e f h j =
    record { reply = u; split = e; awaited = inl (f, ap (λ (x : List ℕ). length x) h); bytes = h; accepts = j }
full_replies said answer (Err end) t u e f h j = λ judge more.
    let x = answered_exchange said (length answer) judge in
    let s : shows x (heard u) ≡ end = ap (shows x) h ∙ end_refused (true && is_refusal answer)
    (nat_lt (length answer) (length answer)) answer (judge answer) j.0 ∙ sym j.1 in
    answer_fails x more t u end e (inl (f, ap (λ (x : List ℕ). length x) h)) s (subst IsTrouble (sym j.1) tt)

-- a short answer, whatever it would have been judged
short_by : (r s : Bool) (answer : List ℕ) (one two : TaskEnd) → s ≡ true → end_by r s answer one ≡ end_by r true answer two
short_by true s answer one two e = refl
short_by false s answer one two e = rw e refl

pub short_replies : (said answer : List ℕ) (size : ℕ) (end : TaskEnd) (t u : List TalkItem) → t ≡ message said ++ u
    → IsShort answer_waits 0 u → heard u ≡ answer → length answer < size
    → end ≡ end_by (is_refusal answer) true answer task_end.Done → (judge : List ℕ → TaskEnd)
    → EndsTask (answered_exchange said size judge) end t
short_replies said answer size end t u e s h below is = λ judge more.
    let x = answered_exchange said size judge in
    let l : length (heard u) < size = subst (λ (y : List ℕ). length y < size) (sym h) below in
    let shown : shows x (heard u) ≡ end = ap (shows x) h ∙ short_by (true && is_refusal answer)
    (nat_lt (length answer) size) answer (judge answer) task_end.Done (lt-ltb (length answer) size below) ∙ sym is in
    answer_fails x more t u end e (inr (s, l)) shown
    (subst IsTrouble (sym is) (short_trouble (is_refusal answer) answer task_end.Done))

pub by_six : (b : ℕ) → not (b == 6) ≡ false → b ≡ 6
by_six b e = grind arith

-- one byte that is no refusal
pub single : (answer : List ℕ) → length answer ≡ 1 → is_refusal answer ≡ false → answer ≡ ack
single [] l r = absurd (omega arith)
single (b ∷ []) l r = ap (λ x. x ∷ []) (by_six b r)
single (b ∷ c ∷ bs) l r = absurd (omega arith)

-- an answer of one byte
pub replies_command : (said answer : List ℕ) (r : Result (Unit {0}) TaskEnd) (t : List TalkItem) → length answer ≡ 1
    → ExchangeReplies said 1 answer r t → Commands said r t
replies_command said answer (Ok done) t l k = subst (λ (x : List ℕ). MessageIsAnswered said x t) (single answer l k.accepts) k
replies_command said answer (Err end) t l k = k (λ (answer : List ℕ). task_end.Done)

-- a frame that is asked for, where the asking ended the task
pub replies_frame : (said answer : List ℕ) (n size : ℕ) (end : TaskEnd) (t : List TalkItem) → size ≡ n + 3
    → ExchangeReplies said size answer (Err end) t → FrameReplies said n answer (Err end) t
replies_frame said answer n size end t e k judge =
    let j = λ (a : List ℕ). checked_end n judge (drop 1 a) in subst (λ x. EndsTask (answered_exchange said x j) end t) e (k j)

bad_check : (b : Bool) (end : TaskEnd) → b ≡ false → (if b then end else task_end.BadCheck) ≡ task_end.BadCheck
bad_check b end e = rw e refl

good_check : (b : Bool) (end : TaskEnd) → b ≡ true → (if b then end else task_end.BadCheck) ≡ end
good_check b end e = rw e refl

-- one whose check is bad
pub bad_frame : (said answer : List ℕ) (n : ℕ) (t : List TalkItem) → length answer ≡ n + 3 → MessageIsAnswered said answer t
    → is_good (drop 1 answer) ≡ false → FrameReplies said n answer (Err task_end.BadCheck) t
bad_frame said answer n t e k bad judge =
    let j = λ (a : List ℕ). checked_end n judge (drop 1 a) in
    subst (λ x. EndsTask (answered_exchange said x j) task_end.BadCheck t) e
    (answered_ends said answer j task_end.BadCheck t k
    (bad_check (is_good (drop 1 answer)) (judge (take n (drop 1 answer))) bad) tt)

-- a good frame is judged by its bytes
frame_judged : (answer : List ℕ) (n : ℕ) (judge : List ℕ → TaskEnd) → is_good (drop 1 answer) ≡ true
    → checked_end n judge (drop 1 answer) ≡ judge (take n (drop 1 answer))
frame_judged answer n judge good = good_check (is_good (drop 1 answer)) (judge (take n (drop 1 answer))) good

-- an answer that begins with 0x06 and whose rest is sealed
pub sealed_answer : (answer : List ℕ) (n : ℕ) → length answer ≡ n + 3 → is_refusal answer ≡ false
    → drop 1 answer ≡ sealed (take n (drop 1 answer)) → answer ≡ ack_frame (take n (drop 1 answer))
sealed_answer [] n l r s = absurd (omega arith)
sealed_answer (b ∷ bs) n l r s = let one : b ∷ bs ≡ 6 ∷ bs = ap (λ x. x ∷ bs) (by_six b r) in one ∙ ap (λ (x : List ℕ). 6 ∷ x) s

-- a good frame that is well ends the exchanges
pub frame_done : (said answer : List ℕ) (n : ℕ) (judge : List ℕ → TaskEnd) (bytes : List ℕ) (t : List TalkItem)
    → length answer ≡ n + 3
    → FrameReplies said n answer (Ok tt) t → judge (take n (drop 1 answer)) ≡ task_end.Done
    → take n (drop 1 answer) ≡ bytes → Exchanges (framed said n judge ∷ []) t (ack_frame bytes ∷ []) task_end.Done
frame_done said answer n judge bytes t l k well is =
    let j = λ (a : List ℕ). checked_end n judge (drop 1 a) in
    subst (λ x. Exchanges (answered_exchange said x j ∷ []) t (ack_frame bytes ∷ []) task_end.Done) l
    (subst (λ (x : List ℕ). Exchanges (answered_exchange said (length answer) j ∷ []) t (x ∷ []) task_end.Done) (k.2 ∙ ap ack_frame is)
    (last_done said answer j t k.0 (frame_judged answer n judge k.1 ∙ well)))

-- one that is not ends the task
pub frame_ends : (said answer : List ℕ) (n : ℕ) (judge : List ℕ → TaskEnd) (end : TaskEnd) (t : List TalkItem)
    → length answer ≡ n + 3
    → FrameReplies said n answer (Ok tt) t → judge (take n (drop 1 answer)) ≡ end → IsTrouble end
    → EndsTask (framed said n judge) end t
frame_ends said answer n judge end t l k bad trouble =
    let j = λ (a : List ℕ). checked_end n judge (drop 1 a) in
    subst (λ x. EndsTask (answered_exchange said x j) end t) l
    (answered_ends said answer j end t k.0 (frame_judged answer n judge k.1 ∙ bad) trouble)

-- all but the first
pub rest_is : (a : List ℕ) → take (length a - 1) (drop 1 a) ≡ drop 1 a
rest_is a = let e : length a - 1 ≡ length (drop 1 a) =
    omega (arith, length-drop 1 a) in ap (λ n. take n (drop 1 a)) e ∙ take-length (drop 1 a)

-- a sealed list of n + 2 bytes
pub seal_size : (n : ℕ) (f : List ℕ) → length f ≡ n + 2 → f ≡ sealed (take (length f - 2) f) → f ≡ sealed (take n f)
seal_size n f l s = let e : length f - 2 ≡ n = omega arith in s ∙ ap (λ m. sealed (take m f)) e
