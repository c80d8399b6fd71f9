use Rattle.replay_laws.proofs.WholeRun.{schedules_law}
use Rattle.replay_laws.proofs.run_laws.schedules.Goals as goal

pub returns : goal.returns
returns c = schedules_law
