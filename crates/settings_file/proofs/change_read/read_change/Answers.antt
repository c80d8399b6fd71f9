use Rattle.settings_file.proofs.NothingNamed.{nothing_within}
use Rattle.settings_file.proofs.change_read.read_change.Goals as goal

pub read_table-requires : goal.read_table-requires
read_table-requires c = record { from = tt; named = nothing_within }
