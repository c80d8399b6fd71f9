use Rattle.replay_laws.proofs.Harmed.{round_law}
use Rattle.replay_laws.proofs.round_laws.a_round_over_a_line.Goals as goal

pub returns : goal.returns
returns g c = round_law g.D.Disk.medium
