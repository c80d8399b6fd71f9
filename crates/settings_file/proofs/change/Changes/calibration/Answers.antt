use Rattle.std.proofs.Common.{take, ap, ◌∙◌, take_all}
use Rattle.settings_file.specs.Calibration.{IsCalibration}
use Rattle.settings_file.specs.Corrections.{calibration_in}
use Rattle.settings_file.specs.Changes.{last_given, named_by}
use Rattle.std.specs.Option.{option_or}
use Rattle.settings_file.proofs.Changes.{last_given-step, either_within, change_at}
use Rattle.settings_file.proofs.change.Changes.calibration.Goals as goal

pub calibration-requires : goal.calibration-requires
calibration-requires c =
    change_at (take c.self.inside.count c.self.inside.all) c.loop-change.change-index c.change-item.result c.self.invariant.valid.each c.loop-change-test.true c.change-item.is

pub loop-change-preserved : goal.loop-change-preserved
loop-change-preserved c =
    let given = named_by (calibration_in c.args.field) c.args.stamp.now in
    let changes = take c.self.inside.count c.self.inside.all in
    let last = c.loop-change.last in
    let one = c.calibration.result in (
      c.or-last.ensures ∙ ap (λ o. option_or o last) c.calibration.ensures.value
          ∙ last_given-step given changes c.loop-change.change-index last c.change-item.result c.loop-change-test.true c.loop-change.invariant.0 c.change-item.is,
      rw c.or-last.ensures (either_within IsCalibration one last c.calibration.ensures.range c.loop-change.invariant.1),
    )

pub returns-clause-value : goal.returns-clause-value
returns-clause-value c =
    let given = named_by (calibration_in c.args.field) c.args.stamp.now in
    let changes = take c.self.inside.count c.self.inside.all in
    c.loop-change.invariant.0 ∙ ap (last_given given) (take_all c.loop-change.change-index changes c.loop-change-test.false ∙ c.self.view_is)
