use Rattle.console_model.proofs.KeptByEvents.{hear_lasts, tick_lasts, due_lasts}
use Rattle.console_model.proofs.laws.what_a_dump_keeps.Goals as goal

pub returns : goal.returns
returns c = record {
  heard = λ k b. hear_lasts k b;
  ticked = λ k. tick_lasts k;
  fell_due = λ k r. due_lasts k r;
}
