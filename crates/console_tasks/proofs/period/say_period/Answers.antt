use Rattle.std.proofs.Common.{◌≡◌, [], ◌∷◌, refl, subst, rules, Err}
use Rattle.vantage_frames.specs.declared.command.Command.TheVariants.{SetPeriod}
use Rattle.serial_link.proofs.JoinedCalls.{talks_as}
use Rattle.console_tasks.specs.Exchange.{command, ack_frame}
use Rattle.console_tasks.specs.TaskTalk.{Exchanges}
use Rattle.console_tasks.specs.Parts.{TaskCompletes}
use Rattle.console_tasks.specs.Tasks.{said_line, reading_back, setting_period}
use Rattle.console_tasks.proofs.FinishedTasks.{task_err, task_tail, ends_here, command_finishes}
use Rattle.console_tasks.proofs.period.say_period.Goals as goal

pub returns-in_err-say_command : goal.returns-in_err-say_command
returns-in_err-say_command g c =
    let end = c.in_err-say_command.field-0.0 in
    let r = c.from_residual-in_err-say_command.result in
    let e : r ≡ Err end = search rules in
    task_err (setting_period c.args.period) c.in_ok-start.field-0 c.in_ok-start.ensures _ r (Err end) end e refl
    (ends_here (command (said_line (SetPeriod c.args.period)))
    (reading_back 0x2D (c.args.period ∷ []) ∷ []) end c.in_err-say_command.ensures)

pub returns : goal.returns
returns g c =
    let r = c.read_back.result in
    let p = c.args.period in
    let answers = λ (done : Unit {0}). ack_frame (p ∷ []) ∷ [] in
    let last = talks_as (TaskCompletes (Exchanges (reading_back 0x2D (p ∷ []) ∷ [])) answers r) c.read_back.ensures (λ f. f) (λ f. f)
    (λ t k. subst (λ m. TaskCompletes (Exchanges (reading_back 0x2D (m ∷ []) ∷ []))
    (λ (done : Unit {0}). ack_frame (m ∷ []) ∷ []) r t) c.minutes.ensures.minutes k) in
    task_tail (setting_period p) c.in_ok-start.field-0 c.in_ok-start.ensures _ r
    (command_finishes (said_line (SetPeriod p))
    (reading_back 0x2D (p ∷ []) ∷ []) c.in_ok-say_command.field-0 answers r c.in_ok-say_command.ensures last)
