use Rattle.replay_laws.proofs.WholeDump.{whole_attempt}
use Rattle.replay_laws.proofs.premise_laws.an_attempt_can_be_whole.Goals as goal

pub returns : goal.returns
returns c = λ console state held idle records after. whole_attempt console state held idle records after
