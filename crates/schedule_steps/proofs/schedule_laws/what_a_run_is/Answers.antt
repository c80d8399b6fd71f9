use Rattle.schedule_steps.proofs.SameValues.{run_count, run_reads}
use Rattle.schedule_steps.proofs.schedule_laws.what_a_run_is.Goals as goal

pub returns : goal.returns
returns c = record { count = run_count; records = run_reads }
