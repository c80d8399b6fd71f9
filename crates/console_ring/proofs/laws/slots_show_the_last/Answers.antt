use Rattle.console_ring.proofs.Latest.{last_number}
use Rattle.console_ring.proofs.laws.slots_show_the_last.Goals as goal

pub returns : goal.returns
returns c count slot small within = last_number count slot small within
