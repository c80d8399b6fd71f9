use Rattle.std.proofs.Common.{◌≡◌, ℕ, subst, arith}
use Rattle.station_base.specs.Fields.{field_count}
use Rattle.daily_summary.proofs.RunningRows.{IsTold, all_told, bounds_told}
use Rattle.daily_summary.proofs.RunningSums.{blank}
use Rattle.daily_summary.proofs.running.RunningSummary.summary.Goals as goal

pub returns-clause-summary : goal.returns-clause-summary
returns-clause-summary c =
    let e : c.loop-field.field ≡ field_count = omega arith in
    all_told blank c.args.self.now c.loop-field.fields c.requires.long (subst (λ (n : ℕ). IsTold blank n c.args.self.now c.loop-field.fields) e c.loop-field.invariant)

pub returns-clause-bounds : goal.returns-clause-bounds
returns-clause-bounds c = rw (returns-clause-summary c) (bounds_told blank c.args.self.now c.requires)
