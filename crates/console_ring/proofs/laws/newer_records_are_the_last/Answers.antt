use Rattle.console_ring.proofs.Latest.{newer_last, plan_newer}
use Rattle.console_ring.proofs.laws.newer_records_are_the_last.Goals as goal

pub returns : goal.returns
returns c = record {
  last = λ history date time rises. newer_last history date time rises;
  plan = λ history date time rises. plan_newer history date time rises;
}
