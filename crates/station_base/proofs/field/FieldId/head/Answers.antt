use Rattle.std.proofs.Common.{rules}
use Rattle.station_base.proofs.FieldTexts.{head_at}
use Rattle.station_base.proofs.field.FieldId.head.Goals as goal

pub returns : goal.returns
returns c = rw (← c.self.view_is) (search (head_at, rules))
