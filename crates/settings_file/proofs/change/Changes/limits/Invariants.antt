use Rattle.std.proofs.Common.{◌≡◌, take, IfSome}
use Rattle.settings_file.specs.Limits.{AreLimits}
use Rattle.settings_file.specs.Corrections.{limits_in}
use Rattle.settings_file.specs.Changes.{last_given, named_by}
use Rattle.settings_file.proofs.change.Changes.limits.Given as goal

abbrev pub invariant-loop-change : goal.invariant-loop-change
invariant-loop-change l =
    (l.last ≡ last_given (named_by (limits_in l.field) l.stamp) (take l.change-index l.changes)) × IfSome l.last AreLimits
