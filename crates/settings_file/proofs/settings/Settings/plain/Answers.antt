use Rattle.std.proofs.Common.{arith, rules}
use Rattle.settings_file.proofs.NothingNamed.{nothing_within}
use Rattle.settings_file.proofs.settings.Settings.plain.Goals as goal

pub invariant_of-result : goal.invariant_of-result
invariant_of-result c = record {
  period = search rules;
  most_from = omega arith;
  most_to = omega arith;
  own = nothing_within;
  changes = c.none.ensures.valid;
}
