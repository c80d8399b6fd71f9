use Rattle.std.proofs.Common.{[], ◌∷◌}
use Rattle.vantage_frames.specs.Ack.{ack}
use Rattle.console_tasks.specs.Exchange.{ack_frame}
use Rattle.console_tasks.specs.Tasks.{writing_memory}
use Rattle.console_tasks.specs.TaskTalk.{TaskTalk}
use Rattle.console_tasks.proofs.FinishedTasks.{answer_done, answer_err}
use Rattle.console_tasks.proofs.memory.write_eeprom.Goals as goal

pub returns-in-Ok : goal.returns-in-Ok
returns-in-Ok g c =
    answer_done (TaskTalk (writing_memory c.args.at c.args.bytes.now))
    (λ (done : Unit {0}). ack ∷ ack ∷ ack_frame c.args.bytes.now ∷ []) tt c.in-Ok.ensures

pub returns-in-Err : goal.returns-in-Err
returns-in-Err g c =
    answer_err (TaskTalk (writing_memory c.args.at c.args.bytes.now))
    (λ (done : Unit {0}). ack ∷ ack ∷ ack_frame c.args.bytes.now ∷ []) c.in-Err.end _ c.in-Err.ensures
