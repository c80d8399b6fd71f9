use Rattle.std.proofs.Common.{◌≡◌, ℕ, List, [], ◌∷◌, refl, subst, rules, Err}
use Rattle.crc_ccitt.specs.Check.{sealed}
use Rattle.vantage_frames.specs.declared.command.Command.TheVariants.{TimeSet}
use Rattle.station_base.specs.ClockTime.{clock_bytes}
use Rattle.serial_link.proofs.JoinedCalls.{talks_as}
use Rattle.vantage_frames.specs.Ack.{ack}
use Rattle.console_tasks.specs.Exchange.{command}
use Rattle.console_tasks.specs.TaskTalk.{Exchanges}
use Rattle.console_tasks.specs.Tasks.{said_line, setting_time}
use Rattle.console_tasks.specs.Parts.{Commands, TaskCompletes}
use Rattle.console_tasks.proofs.FinishedTasks.{task_err, task_tail, ends_here, command_finishes, last_command}
use Rattle.console_tasks.proofs.time.say_time.Goals as goal

pub returns-in_err-say_command : goal.returns-in_err-say_command
returns-in_err-say_command g c =
    let end = c.in_err-say_command.field-0.0 in
    let r = c.from_residual-in_err-say_command.result in
    let e : r ≡ Err end = search rules in
    task_err (setting_time c.args.time.now) c.in_ok-start.field-0 c.in_ok-start.ensures _ r (Err end) end e refl
    (ends_here (command (said_line TimeSet))
    (command (sealed (clock_bytes c.args.time.now)) ∷ []) end c.in_err-say_command.ensures)

pub returns : goal.returns
returns g c =
    let r = c.say_frame.result in
    let bytes = clock_bytes c.args.time.now in
    let said : c.clock_bytes.result ≡ bytes = search rules in
    let answers = λ (done : Unit {0}). ack ∷ [] in
    let last = talks_as (TaskCompletes (Exchanges (command (sealed bytes) ∷ [])) answers r) c.say_frame.ensures (λ f. f) (λ f. f)
    (λ t k. last_command (sealed bytes) r t (subst (λ (x : List ℕ). Commands (sealed x) r t) said k)) in
    task_tail (setting_time c.args.time.now) c.in_ok-start.field-0 c.in_ok-start.ensures _ r
    (command_finishes (said_line TimeSet)
    (command (sealed bytes) ∷ []) c.in_ok-say_command.field-0 answers r c.in_ok-say_command.ensures last)
