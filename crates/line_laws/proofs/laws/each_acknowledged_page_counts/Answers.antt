use Rattle.line_laws.proofs.EachAcknowledged.{all_counted}
use Rattle.line_laws.proofs.laws.each_acknowledged_page_counts.Goals as goal

pub returns : goal.returns
returns c = all_counted
