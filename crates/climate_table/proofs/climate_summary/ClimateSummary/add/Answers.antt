use Rattle.std.proofs.Common.{ap, arith}
use Rattle.climate_table.specs.declared.climate_summary.ClimateSummary.{ClimateSummary}
use Rattle.climate_table.specs.Degrees.{is_wet, outside, rain}
use Rattle.climate_table.proofs.JoinedDays.{climate_join, click_is, no_degrees, with_degrees}
use Rattle.climate_table.proofs.climate_summary.ClimateSummary.add.Goals as goal

pub returns-in_default-clause-climate : goal.returns-in_default-clause-climate
returns-in_default-clause-climate c rows days next was is =
    let none = no_degrees (outside c.args.day.now) c.in_default.ensures.exact in
    let click = click_is c.from.result c.is_wet.result (is_wet (rain c.args.day.now)) c.from.ensures c.is_wet.ensures in
    climate_join rows days next c.args.day.now c.args.self.now _ was is (record {
      days = rw none (omega arith);
      wet = omega (arith, click);
      heating = rw none (omega arith);
      cooling = rw none (omega arith);
    }) (c.merge.ensures.summary _ _ (ap (λ (s : ClimateSummary). s.sums) was) is)

pub returns-clause-climate : goal.returns-clause-climate
returns-clause-climate c rows days next was is =
    let some = with_degrees (outside c.args.day.now) c.in-Some.degrees c.in-Some.ensures.exact in
    let click = click_is c.from.result c.is_wet.result (is_wet (rain c.args.day.now)) c.from.ensures c.is_wet.ensures in
    climate_join rows days next c.args.day.now c.args.self.now _ was is (record {
      days = omega (arith, some.0);
      wet = omega (arith, click);
      heating = omega (arith, some.1, c.thousandths.ensures.exact);
      cooling = omega (arith, some.2, c.thousandths-2.ensures.exact);
    }) (c.merge.ensures.summary _ _ (ap (λ (s : ClimateSummary). s.sums) was) is)
