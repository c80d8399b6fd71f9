use Rattle.std.proofs.Common.{[], ◌∷◌, length}
use Rattle.console_tasks.specs.Exchange.{ack_frame}
use Rattle.console_tasks.specs.Tasks.{reading_memory}
use Rattle.console_tasks.specs.TaskTalk.{TaskTalk}
use Rattle.console_tasks.proofs.FinishedTasks.{answer_done, answer_err}
use Rattle.console_tasks.proofs.memory.read_eeprom.Goals as goal

pub returns-in-Ok-clause-task : goal.returns-in-Ok-clause-task
returns-in-Ok-clause-task g c =
    answer_done (TaskTalk (reading_memory c.args.at (length c.args.into.now)))
    (λ (done : Unit {0}). ack_frame c.read_bytes.new.into ∷ []) tt c.in-Ok.ensures.task

pub returns-in-Err-clause-task : goal.returns-in-Err-clause-task
returns-in-Err-clause-task g c =
    answer_err (TaskTalk (reading_memory c.args.at (length c.args.into.now)))
    (λ (done : Unit {0}). ack_frame c.read_bytes.new.into ∷ []) c.in-Err.end _ c.in-Err.ensures.task
