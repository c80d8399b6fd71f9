use Rattle.replay_laws.proofs.Roomy.{round_in_run}
use Rattle.replay_laws.proofs.run_laws.rounds_have_room.Goals as goal

pub returns : goal.returns
returns c = round_in_run
