use Rattle.replay_laws.proofs.Roomy.{room_law}
use Rattle.replay_laws.proofs.run_laws.run_fits.Goals as goal

pub returns : goal.returns
returns c = room_law
