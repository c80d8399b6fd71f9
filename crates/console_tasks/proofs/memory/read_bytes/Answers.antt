use Rattle.std.proofs.Common.{◌≡◌, ◌+◌, ◌-◌, [], ◌∷◌, length, take, drop, refl, ◌∙◌, ap, arith, rules, Ok, Err}
use Rattle.serial_link.proofs.JoinedCalls.{talks_as}
use Rattle.console_tasks.specs.Exchange.{ack_frame}
use Rattle.console_tasks.specs.TaskTalk.{Exchanges, Fails}
use Rattle.console_tasks.specs.Tasks.{reading_memory}
use Rattle.console_tasks.specs.Parts.{TaskCompletes}
use Rattle.console_tasks.proofs.FinishedTasks.{task_err, task_done}
use Rattle.console_tasks.proofs.MemoryAndClock.{read_done, read_fails}
use Rattle.console_tasks.proofs.memory.read_bytes.Goals as goal

pub returns-in_err-ask_bytes-clause-task : goal.returns-in_err-ask_bytes-clause-task
returns-in_err-ask_bytes-clause-task g c =
    let end = c.in_err-ask_bytes.field-0.0 in
    let r = c.from_residual-in_err-ask_bytes.result in
    let e : r ≡ Err end = search rules in
    let n = length c.args.into.now in
    let two = talks_as (Fails (Exchanges (reading_memory c.args.at n)) end) c.in_err-ask_bytes.ensures.talk (λ f. f) (λ f. f)
    (λ t k. read_fails c.args.at n _ c.ask_bytes.new.answer end t refl k) in
    task_err (reading_memory c.args.at n) c.in_ok-start.field-0 c.in_ok-start.ensures _ r (Err end) end e refl two

pub returns-clause-task : goal.returns-clause-task
returns-clause-task g c =
    let n = length c.args.into.now in
    let answer = c.ask_bytes.new.answer in
    let into = c.copy_from_slice.new.self in
    let size : length answer ≡ n + 3 = c.ask_bytes.ensures.size in
    let one : n + 1 - 1 ≡ n = omega arith in
    let answers = λ (done : Unit {0}). ack_frame into ∷ [] in
    let two = talks_as (TaskCompletes (Exchanges (reading_memory c.args.at n)) answers (Ok tt)) c.in_ok-ask_bytes.ensures.talk
    (λ f. f) (λ f. f)
    (λ t k. read_done c.args.at n _ answer into t refl size
    (c.copy_from_slice.ensures.after ∙ ap (λ m. take m (drop 1 answer)) one) k) in
    task_done (reading_memory c.args.at n) c.in_ok-start.field-0 c.in_ok-start.ensures answers tt two
