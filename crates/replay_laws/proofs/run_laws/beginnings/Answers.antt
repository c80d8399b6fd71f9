use Rattle.replay_laws.proofs.WholeRun.{begun_law}
use Rattle.replay_laws.proofs.run_laws.beginnings.Goals as goal

pub returns : goal.returns
returns c = begun_law
