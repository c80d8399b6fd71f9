use Rattle.console_model.proofs.KeptByEvents.{tick_keeps, due_adds}
use Rattle.console_model.proofs.Plainly.{hear_keeps}
use Rattle.console_model.proofs.laws.what_keeps_the_records.Goals as goal

pub returns : goal.returns
returns c = record {
  heard = λ k b valid. hear_keeps k b valid;
  ticked = λ k. tick_keeps k;
  fell_due = λ k r valid. due_adds k r valid;
}
