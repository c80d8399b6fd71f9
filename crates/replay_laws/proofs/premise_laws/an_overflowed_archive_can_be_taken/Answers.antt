use Rattle.replay_laws.proofs.WholeDump.{overflow_taken}
use Rattle.replay_laws.proofs.premise_laws.an_overflowed_archive_can_be_taken.Goals as goal

pub returns : goal.returns
returns c = overflow_taken
