use Rattle.std.proofs.Common.{rules, sym}
use Rattle.station_base.proofs.FieldSets.{not_below}
use Rattle.row_slot.proofs.values.are_missing.Goals as goal

pub returns-in-None : goal.returns-in-None
returns-in-None c = sym (not_below c.args.limited c.args.values.now (search rules))
