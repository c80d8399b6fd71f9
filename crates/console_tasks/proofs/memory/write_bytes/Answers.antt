use Rattle.std.proofs.Common.{◌≡◌, [], ◌∷◌, length, refl, rules, Err}
use Rattle.crc_ccitt.specs.Check.{sealed}
use Rattle.vantage_frames.specs.declared.command.Command.TheVariants.{EepromWrite}
use Rattle.vantage_frames.specs.Ack.{ack}
use Rattle.console_tasks.specs.Exchange.{command, ack_frame}
use Rattle.console_tasks.specs.Tasks.{said_line, reading_back, writing_memory}
use Rattle.console_tasks.proofs.FinishedTasks.{task_err, task_tail, ends_here, command_finishes, command_fails}
use Rattle.console_tasks.proofs.memory.write_bytes.Goals as goal

pub returns-in_err-say_command : goal.returns-in_err-say_command
returns-in_err-say_command g c =
    let end = c.in_err-say_command.field-0.0 in
    let r = c.from_residual-in_err-say_command.result in
    let e : r ≡ Err end = search rules in
    let at = c.args.at in
    let bytes = c.args.bytes.now in
    task_err (writing_memory at bytes) c.in_ok-start.field-0 c.in_ok-start.ensures _ r (Err end) end e refl
    (ends_here (command (said_line (EepromWrite at (length bytes))))
    (command (sealed bytes) ∷ reading_back at bytes ∷ []) end c.in_err-say_command.ensures)

pub returns-in_err-say_frame : goal.returns-in_err-say_frame
returns-in_err-say_frame g c =
    let end = c.in_err-say_frame.field-0.0 in
    let r = c.from_residual-in_err-say_frame.result in
    let e : r ≡ Err end = search rules in
    let at = c.args.at in
    let bytes = c.args.bytes.now in
    task_err (writing_memory at bytes) c.in_ok-start.field-0 c.in_ok-start.ensures _ r (Err end) end e refl
    (command_fails (said_line (EepromWrite at (length bytes))) (command (sealed bytes))
    (reading_back at bytes ∷ []) c.in_ok-say_command.field-0 end c.in_ok-say_command.ensures c.in_err-say_frame.ensures)

pub returns : goal.returns
returns g c =
    let r = c.read_back.result in
    let at = c.args.at in
    let bytes = c.args.bytes.now in
    let last = λ (done : Unit {0}). ack_frame bytes ∷ [] in
    let two = λ (done : Unit {0}). ack ∷ ack_frame bytes ∷ [] in
    let more = command_finishes (sealed bytes)
    (reading_back at bytes ∷ []) c.in_ok-say_frame.field-0 last r c.in_ok-say_frame.ensures c.read_back.ensures in
    task_tail (writing_memory at bytes) c.in_ok-start.field-0 c.in_ok-start.ensures (λ done. ack ∷ ack ∷ ack_frame bytes ∷ []) r
    (command_finishes (said_line (EepromWrite at (length bytes)))
    (command (sealed bytes) ∷ reading_back at bytes ∷ []) c.in_ok-say_command.field-0 two r c.in_ok-say_command.ensures more)
