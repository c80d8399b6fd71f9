use Rattle.std.proofs.Common.{◌≡◌, ◌+◌, ◌-◌, [], ◌∷◌, length, take, drop, refl, ap, arith, rules, Err}
use Rattle.console_tasks.specs.Exchange.{ack_frame}
use Rattle.console_tasks.specs.TaskTalk.{Exchanges, Fails}
use Rattle.console_tasks.specs.Tasks.{reading_back}
use Rattle.console_tasks.specs.Parts.{TaskCompletes}
use Rattle.serial_link.proofs.JoinedCalls.{talks_as}
use Rattle.console_tasks.proofs.Troubles.{talks_shown}
use Rattle.console_tasks.proofs.FinishedTasks.{fails_as}
use Rattle.console_tasks.proofs.MemoryAndClock.{back_finishes, back_fails, compared_trouble}
use Rattle.console_tasks.proofs.memory.read_back.Goals as goal

pub returns-in_err-ask_bytes : goal.returns-in_err-ask_bytes
returns-in_err-ask_bytes g c =
    let end = c.in_err-ask_bytes.field-0.0 in
    let r = c.from_residual.result in
    let e : r ≡ Err end = search rules in
    let sent = c.args.bytes.now in
    let Talk = Exchanges (reading_back c.args.at sent ∷ []) in
    fails_as Talk (λ (done : Unit {0}). ack_frame sent ∷ []) r (Err end) end e refl
    (talks_as (Fails Talk end) c.in_err-ask_bytes.ensures.talk (λ f. f) (λ f. f)
    (λ t k. back_fails c.args.at _ sent c.ask_bytes.new.answer end t refl k))

pub returns : goal.returns
returns g c =
    let sent = c.args.bytes.now in
    let answer = c.ask_bytes.new.answer in
    let r = c.compare.result in
    let size : length answer ≡ length sent + 3 = c.ask_bytes.ensures.size in
    let one : length sent + 1 - 1 ≡ length sent = omega arith in
    let read = take (length sent + 1 - 1) (drop 1 answer) in
    talks_shown r (TaskCompletes (Exchanges (reading_back c.args.at sent ∷ [])) (λ done. ack_frame sent ∷ []) r)
    (compared_trouble c.args.at sent read r c.compare.ensures) c.in_ok-ask_bytes.ensures.talk
    (λ t k. back_finishes c.args.at _ sent answer read r t refl size (ap (λ m. take m (drop 1 answer)) one) c.compare.ensures k)
