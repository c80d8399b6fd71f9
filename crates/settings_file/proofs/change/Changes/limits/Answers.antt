use Rattle.std.proofs.Common.{take, ap, ◌∙◌, take_all}
use Rattle.settings_file.specs.Limits.{AreLimits}
use Rattle.settings_file.specs.Corrections.{limits_in}
use Rattle.settings_file.specs.Changes.{last_given, named_by}
use Rattle.std.specs.Option.{option_or}
use Rattle.settings_file.proofs.Changes.{last_given-step, either_within, change_at}
use Rattle.settings_file.proofs.change.Changes.limits.Goals as goal

pub limits-requires : goal.limits-requires
limits-requires c =
    change_at (take c.self.inside.count c.self.inside.all) c.loop-change.change-index c.change-item.result c.self.invariant.valid.each c.loop-change-test.true c.change-item.is

pub loop-change-preserved : goal.loop-change-preserved
loop-change-preserved c =
    let given = named_by (limits_in c.args.field) c.args.stamp.now in
    let changes = take c.self.inside.count c.self.inside.all in
    let last = c.loop-change.last in
    let one = c.limits.result in (
      c.or-last.ensures ∙ ap (λ o. option_or o last) c.limits.ensures.value
          ∙ last_given-step given changes c.loop-change.change-index last c.change-item.result c.loop-change-test.true c.loop-change.invariant.0 c.change-item.is,
      rw c.or-last.ensures (either_within AreLimits one last c.limits.ensures.range c.loop-change.invariant.1),
    )

pub returns-clause-value : goal.returns-clause-value
returns-clause-value c =
    let given = named_by (limits_in c.args.field) c.args.stamp.now in
    let changes = take c.self.inside.count c.self.inside.all in
    c.loop-change.invariant.0 ∙ ap (last_given given) (take_all c.loop-change.change-index changes c.loop-change-test.false ∙ c.self.view_is)
