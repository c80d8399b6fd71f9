use Rattle.daily_summary.proofs.Extremes.{least_first, greatest_first}
use Rattle.daily_summary.proofs.laws.first_extremes.Goals as goal

pub returns-clause-least : goal.returns-clause-least
returns-clause-least c = least_first

pub returns-clause-greatest : goal.returns-clause-greatest
returns-clause-greatest c = greatest_first
