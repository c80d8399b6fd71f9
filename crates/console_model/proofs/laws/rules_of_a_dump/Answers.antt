use Rattle.console_model.proofs.DumpBytes.{sends_next, sends_again, stopped, begins_line}
use Rattle.console_model.proofs.laws.rules_of_a_dump.Goals as goal

pub returns : goal.returns
returns c = record {
  next = λ k p sent at below. sends_next k p sent at below;
  again = λ k p n b at is. sends_again k p n b at is;
  stop = λ k p sent at. stopped k p sent at;
  line = λ k p sent b at letter. begins_line k p sent b at letter;
}
