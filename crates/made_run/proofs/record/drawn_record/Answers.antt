use Rattle.std.proofs.Common.{List, Option, ℤ, ap, ◌∙◌, rules}
use Rattle.archive_record.specs.Table.{places}
use Rattle.archive_record.specs.Writing.{can_hold_all}
use Rattle.draws.specs.Draws.{drawn, next_draw}
use Rattle.made_run.proofs.DrawnValues.{due_held}
use Rattle.made_run.proofs.record.drawn_record.Goals as goal

pub unwrap-requires : goal.unwrap-requires
unwrap-requires c =
    let held = ap (λ (values : List (Option ℤ)). can_hold_all places values) c.drawn_values.ensures.values ∙ due_held (drawn (next_draw c.args.draws.now.number)) (drawn (next_draw (next_draw c.args.draws.now.number))) in
    let some = c.write.ensures.test ∙ held in
    search rules
