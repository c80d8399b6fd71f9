use Rattle.std.proofs.Common.{◌≡◌, ℕ, List, [], ◌∷◌, length, take, drop, refl, subst, arith, rules, Ok, Err}
use Rattle.vantage_frames.specs.declared.command.Command.TheVariants.{TimeGet}
use Rattle.station_base.specs.declared.clock.ClockTime.{ClockTime}
use Rattle.station_base.specs.ClockTime.{clock_bytes}
use Rattle.serial_link.proofs.JoinedCalls.{talks_as}
use Rattle.console_tasks.specs.Exchange.{ack_frame}
use Rattle.console_tasks.specs.Clock.{judge_clock}
use Rattle.console_tasks.specs.TaskTalk.{Exchanges, Fails}
use Rattle.console_tasks.specs.Tasks.{said_line, asking_time}
use Rattle.console_tasks.specs.Parts.{TaskCompletes, FrameReplies}
use Rattle.console_tasks.proofs.Troubles.{talks_shown}
use Rattle.console_tasks.proofs.FinishedTasks.{task_err, task_tail}
use Rattle.console_tasks.proofs.MemoryAndClock.{clock_finishes, clock_trouble}
use Rattle.console_tasks.proofs.time.ask_time.Goals as goal

pub returns-in_err-ask_frame-clause-task : goal.returns-in_err-ask_frame-clause-task
returns-in_err-ask_frame-clause-task g c =
    let end = c.in_err-ask_frame.field-0.0 in
    let r = c.from_residual-in_err-ask_frame.result in
    let e : r ≡ Err end = search rules in
    let answer = c.ask_frame.new.answer in
    let said : c.deref.result.now ≡ said_line TimeGet = search rules in
    let two = talks_as (Fails (Exchanges asking_time) end) c.in_err-ask_frame.ensures (λ f. f) (λ f. f)
    (λ t k. (subst (λ (x : List ℕ). FrameReplies x 6 answer (Err end) t) said k) judge_clock []) in
    task_err asking_time c.in_ok-start.field-0 c.in_ok-start.ensures _ r (Err end) end e refl two

pub returns-clause-task : goal.returns-clause-task
returns-clause-task g c =
    let r = c.read_clock.result in
    let answer = c.ask_frame.new.answer in
    let bytes = take 6 (drop 1 answer) in
    let said : c.deref.result.now ≡ said_line TimeGet = search rules in
    let size : length answer ≡ 9 = omega (arith, c.ask_frame.auto.answer) in
    let answers = λ (time : ClockTime). ack_frame (clock_bytes time) ∷ [] in
    let two = talks_shown r (TaskCompletes (Exchanges asking_time) answers r)
    (clock_trouble bytes r c.read_clock.ensures.judged) c.in_ok-ask_frame.ensures
    (λ t k. clock_finishes answer bytes r t size refl c.read_clock.ensures.judged
    (subst (λ (x : List ℕ). FrameReplies x 6 answer (Ok tt) t) said k)) in
    task_tail asking_time c.in_ok-start.field-0 c.in_ok-start.ensures answers r two
