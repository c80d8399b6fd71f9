use Rattle.std.proofs.Common.{◌∙◌, ap, sym, arith, length-set, drop, below_more, rules}
use Rattle.std.specs.Bool.{then_some}
use Rattle.std.specs.Int.{w32}
use Rattle.std.specs.Prelude.{FitsSigned}
use Rattle.std.proofs.lemmas.Bool.{false≢true}
use Rattle.row_slot.specs.Values.{is_allowed, slot_values_in}
use Rattle.row_slot.proofs.Fields.{fields_read, none_read, told, tells_more}
use Rattle.row_slot.proofs.values.read_values.Goals as goal
use Rattle.station_base.specs.Fields.{field_count}

pub returns-then-not-read_value : goal.returns-then-not-read_value
returns-then-not-read_value c =
    let slot = c.args.slot.now in
    let presence = c.presence_in-presence.result in
    let field = c.loop-field.field in
    let fits : FitsSigned w32 c.number_of-number.result = search rules in
    let refused = sym (told is_allowed presence field slot c.number_of-number.result fits c.number_of-number.ensures) ∙ sym c.read_value.ensures.allowed ∙ c.if-not-read_value.true in
    ap (λ n. slot_values_in field_count n (drop 20 slot)) (sym c.presence_in-presence.ensures)
    ∙ none_read field_count presence (drop 20 slot) (λ are. false≢true (sym refused ∙ are.allowed field c.loop-field-test.true))

pub loop-field-preserved : goal.loop-field-preserved
loop-field-preserved c =
    let slot = c.args.slot.now in
    let presence = c.presence_in-presence.result in
    let field = c.loop-field.field in
    let fits : FitsSigned w32 c.number_of-number.result = search rules in
    let allowed = sym (told is_allowed presence field slot c.number_of-number.result fits c.number_of-number.ensures) ∙ sym c.read_value.ensures.allowed ∙ c.if-not-read_value.false in
    let value = c.read_value.ensures.value c.if-not-read_value.false ∙ told (λ b z. then_some b z) presence field slot c.number_of-number.result fits c.number_of-number.ensures in
    record {
      long = length-set _ _ _ ∙ c.loop-field.invariant.long;
      allowed = below_more _ _ c.loop-field.invariant.allowed allowed;
      tells = tells_more presence field (drop 20 slot) c.loop-field.values c.read_value.new.value (omega arith) value c.loop-field.invariant.tells;
    }

pub returns-then-presence-ne0 : goal.returns-then-presence-ne0
returns-then-presence-ne0 c =
    let presence = c.presence_in-presence.result in
    ap (λ n. slot_values_in field_count n (drop 20 c.args.slot.now)) (sym c.presence_in-presence.ensures)
    ∙ none_read field_count presence (drop 20 c.args.slot.now) (λ are. c.if-presence-ne0.true (omega (arith, are.below)))

pub returns : goal.returns
returns c =
    let presence = c.presence_in-presence.result in
    ap (λ n. slot_values_in field_count n (drop 20 c.args.slot.now)) (sym c.presence_in-presence.ensures)
    ∙ fields_read field_count presence (drop 20 c.args.slot.now) c.loop-field.values c.loop-field.invariant.long
    (record {
      below = omega arith;
      allowed = λ field within. c.loop-field.invariant.allowed field (omega arith);
    })
    (λ field within. c.loop-field.invariant.tells field (omega arith))
