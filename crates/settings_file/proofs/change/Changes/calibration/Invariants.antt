use Rattle.std.proofs.Common.{◌≡◌, take, IfSome}
use Rattle.settings_file.specs.Calibration.{IsCalibration}
use Rattle.settings_file.specs.Corrections.{calibration_in}
use Rattle.settings_file.specs.Changes.{last_given, named_by}
use Rattle.settings_file.proofs.change.Changes.calibration.Given as goal

abbrev pub invariant-loop-change : goal.invariant-loop-change
invariant-loop-change l =
    (l.last ≡ last_given (named_by (calibration_in l.field) l.stamp) (take l.change-index l.changes)) × IfSome l.last IsCalibration
