use Rattle.std.proofs.Common.{[], ◌∷◌}
use Rattle.station_base.specs.declared.clock.ClockTime.{ClockTime}
use Rattle.station_base.specs.ClockTime.{clock_bytes}
use Rattle.console_tasks.specs.Exchange.{ack_frame}
use Rattle.console_tasks.specs.Tasks.{asking_time}
use Rattle.console_tasks.specs.TaskTalk.{TaskTalk}
use Rattle.console_tasks.proofs.FinishedTasks.{answer_done, answer_err}
use Rattle.console_tasks.proofs.time.get_time.Goals as goal

pub returns-in-Ok-clause-task : goal.returns-in-Ok-clause-task
returns-in-Ok-clause-task g c =
    answer_done (TaskTalk asking_time)
    (λ (time : ClockTime). ack_frame (clock_bytes time) ∷ []) c.in-Ok.time c.in-Ok.ensures.task

pub returns-in-Err-clause-task : goal.returns-in-Err-clause-task
returns-in-Err-clause-task g c =
    answer_err (TaskTalk asking_time)
    (λ (time : ClockTime). ack_frame (clock_bytes time) ∷ []) c.in-Err.end _ c.in-Err.ensures.task
