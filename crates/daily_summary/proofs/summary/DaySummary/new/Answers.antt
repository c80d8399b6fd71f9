use Rattle.std.proofs.Common.{arith}
use Rattle.daily_summary.proofs.Fields.{none_blank}
use Rattle.daily_summary.proofs.summary.DaySummary.new.Goals as goal
use Rattle.station_base.specs.Fields.{field_count}

pub returns-clause-bounds : goal.returns-clause-bounds
returns-clause-bounds c = record { rows = omega arith; fields = λ field. none_blank field_count field 0 }
