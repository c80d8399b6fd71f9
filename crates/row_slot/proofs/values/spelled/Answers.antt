use Rattle.std.proofs.Common.{rules, ◌∙◌, ◌≡◌, ◌≢◌, ◌<◌, ℤ, pos, ap, sym, Option, None, length, length-set, arith, below_more, get_or-set_other, get_or-set_same}
use Rattle.std.specs.Option.{unwrap_or}
use Rattle.std.specs.Int.{w32}
use Rattle.std.specs.Prelude.{FitsSigned}
use Rattle.std.proofs.lemmas.Int.{to_z-of_z}
use Rattle.std.proofs.lemmas.List.{ext_get_or, get_or-map, length-map}
use Rattle.row_slot.specs.Values.{numbers_of, spelled_numbers}
use Rattle.row_slot.proofs.values.spelled.Goals as goal

pub loop-field-preserved : goal.loop-field-preserved
loop-field-preserved c =
    let values = c.args.values.now in
    let field = c.loop-field.field in
    let within : field < length values = omega arith in
    let fits : FitsSigned w32 c.unwrap_or.result = search rules in
    let here = to_z-of_z w32 c.unwrap_or.result fits ∙ c.unwrap_or.ensures ∙ sym (get_or-map (λ (value : Option ℤ). unwrap_or value (pos 0)) values field None (pos 0) within) in
    let room : field < length c.loop-field.numbers = omega arith in
    record {
      long = length-set _ _ _ ∙ c.loop-field.invariant.long;
      each = below_more _ _
          (λ k h. let other : k ≢ field = omega arith in rw get_or-set_other (c.loop-field.invariant.each k h))
          (rw get_or-set_same here);
    }

pub returns-clause-bytes : goal.returns-clause-bytes
returns-clause-bytes c =
    let values = c.args.values.now in
    let numbers = c.loop-field.numbers in
    let long : length numbers ≡ length (numbers_of values) = c.loop-field.invariant.long ∙ sym (length-map values (λ (value : Option ℤ). unwrap_or value (pos 0)) ∙ c.told-values) in
    let same : numbers ≡ numbers_of values = ext_get_or (pos 0) numbers (numbers_of values) long (λ i within. c.loop-field.invariant.each i (omega arith)) in
    c.write_i32_into.ensures ∙ ap spelled_numbers same
