use Rattle.std.proofs.Common.{rules, length-set, ◌∙◌}
use Rattle.settings_file.proofs.Lists.{named_set}
use Rattle.settings_file.specs.Limits.{AreLimits}
use Rattle.settings_file.proofs.limits.ArrayOptionLimitsFIELDCOUNTFilled.fill.Goals as goal

pub returns-clause-valid : goal.returns-clause-valid
returns-clause-valid c = record {
  count = length-set c.args.self c.index.result _ ∙ c.requires.count;
  each = named_set AreLimits c.args.self c.index.result c.in_ok-limits.limits c.requires.each (search rules);
}
