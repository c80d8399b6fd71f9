use Rattle.promise_laws.proofs.RefusedPrints.{right_numbers}
use Rattle.promise_laws.proofs.printing_laws.each_number_of_a_day_is_right.Goals as goal

pub returns : goal.returns
returns c = right_numbers
