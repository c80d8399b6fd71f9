use Rattle.std.proofs.Common.{[], ap, arith}
use Rattle.daily_summary.specs.declared.summary.DaySummary.{DaySummary}
use Rattle.weather_book.proofs.DayOf.{summary_rows}
use Rattle.weather_reports.proofs.days.summary_of.Goals as goal

pub returns-in-NoRows-clause-bounds : goal.returns-in-NoRows-clause-bounds
returns-in-NoRows-clause-bounds g c = record {
  bounds = c.new.ensures.bounds;
  rows = omega (arith, ap (λ (s : DaySummary). s.rows) c.new.ensures.summary, summary_rows []);
}
