use Rattle.std.proofs.Common.{refl}
use Rattle.station_base.specs.Fields.{fields}
use Rattle.station_base.proofs.FieldTexts.{unit_at}
use Rattle.station_base.proofs.field.FieldId.unit.Goals as goal

pub returns : goal.returns
unfolding fields
returns c = let small = c.self.invariant in rw (← c.self.view_is) (rw (unit_at _ _ _ refl small) refl)
