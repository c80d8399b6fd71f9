use Rattle.std.proofs.Common.{ap, arith}
use Rattle.daily_summary.specs.Summary.{summary_of}
use Rattle.daily_summary.specs.declared.summary.DaySummary.{DaySummary}
use Rattle.climate_table.proofs.climate_summary.ClimateSummary.new.Goals as goal

pub returns-clause-few : goal.returns-clause-few
unfolding summary_of
returns-clause-few c =
    let none = ap (λ (s : DaySummary). s.rows) c.new.ensures.summary in
    record { rows = omega (arith, none); days = omega arith; wet = omega arith; heating = omega arith; cooling = omega arith }
