use Rattle.std.proofs.Common.{◌∙◌, None, get_or}
use Rattle.row_slot.proofs.Presence.{presence_more, bit_is}
use Rattle.row_slot.proofs.values.presence_of.Goals as goal

pub loop-field-preserved : goal.loop-field-preserved
loop-field-preserved c =
    let values = c.args.values.now in
    let field = c.loop-field.field in
    presence_more values field c.from.result c.loop-field.presence None c.loop-field-test.true c.told-values
    (c.from.ensures ∙ bit_is (get_or values field None) c.is_some.result c.is_some.ensures) c.loop-field.invariant
