use Rattle.std.proofs.Common.{ℕ, [], ◌∷◌}
use Rattle.console_tasks.specs.TaskTalk.{TaskTalk}
use Rattle.console_tasks.specs.Tasks.{asking_kind}
use Rattle.console_tasks.proofs.FinishedTasks.{answer_done, answer_err}
use Rattle.console_tasks.proofs.kind.station_kind.Goals as goal

pub returns-in-Ok-clause-task : goal.returns-in-Ok-clause-task
returns-in-Ok-clause-task g c =
    answer_done (TaskTalk asking_kind) (λ (kind : ℕ). (6 ∷ kind ∷ []) ∷ []) c.in-Ok.kind c.in-Ok.ensures

pub returns-in-Err-clause-task : goal.returns-in-Err-clause-task
returns-in-Err-clause-task g c =
    answer_err (TaskTalk asking_kind) (λ (kind : ℕ). (6 ∷ kind ∷ []) ∷ []) c.in-Err.end _ c.in-Err.ensures
