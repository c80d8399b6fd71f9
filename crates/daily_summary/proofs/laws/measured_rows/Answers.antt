use Rattle.daily_summary.proofs.Typed.{bounds_of, typed_of}
use Rattle.daily_summary.proofs.laws.measured_rows.Goals as goal

pub returns-clause-bounds : goal.returns-clause-bounds
returns-clause-bounds c = bounds_of

pub returns-clause-typed : goal.returns-clause-typed
returns-clause-typed c = typed_of
