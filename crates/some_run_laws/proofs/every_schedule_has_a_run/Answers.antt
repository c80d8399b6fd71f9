use Rattle.some_run_laws.proofs.SomeRun.{run_law}
use Rattle.some_run_laws.proofs.every_schedule_has_a_run.Goals as goal

pub returns : goal.returns
returns c = run_law
