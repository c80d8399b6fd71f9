use Rattle.std.proofs.Common.{rules}
use Rattle.station_base.specs.Fields.{fields}
use Rattle.station_base.proofs.FieldTexts.{name_at}
use Rattle.station_base.proofs.field.FieldId.name.Goals as goal

pub returns : goal.returns
unfolding fields
returns c = rw (← c.self.view_is) (search (name_at, rules))
