use Rattle.std.proofs.Common.{rules, ◌≡◌, ◌+◌, ◌<◌, ℕ, length, get_or, Option, None, subst, ap, ◌∙◌, arith}
use Rattle.std.proofs.lemmas.List.{get_or_default}
use Rattle.daily_summary.specs.declared.field_sum.FieldSum.{FieldSum}
use Rattle.daily_summary.specs.Joined.{merged, value_count}
use Rattle.daily_summary.proofs.Fields.{count_in, wider, merged_more, rows_joined, IsMerged}
use Rattle.daily_summary.proofs.summary.DaySummary.merge.Goals as goal
use Rattle.station_base.specs.Fields.{field_count}

pub loop-field-preserved : goal.loop-field-preserved
loop-field-preserved c =
    let i = c.loop-field.field in let inv = c.loop-field.invariant.fields in
    let small : i < field_count = c.loop-field-test.true in
    let long : length c.args.later.now.fields ≡ field_count = search rules in
    let same = get_or_default c.loop-field.self.fields i c.index-self-field.result None (omega (arith, inv.long)) in
    let other = get_or_default c.args.later.now.fields i c.index-later-field.result None (omega (arith, long)) in
    let one = ap value_count (same ∙ inv.left i (omega arith)) in
    let two = count_in c.args.self.now c.requires.bounds i in
    let three = count_in c.args.later.now c.requires.later i in
    let four = ap value_count other in
    record {
      fields = merged_more i _ c.args.self.now.fields c.loop-field.self.fields _ c.merge.new.sum small inv
          (c.merge.ensures.exact ∙ ap (λ (o : Option FieldSum). merged o (get_or c.args.later.now.fields i c.index-later-field.result)) same
          ∙ ap (merged (get_or c.loop-field.self.fields i None)) other)
          (wider _ _ c.merge.new.sum (omega arith) c.merge.ensures.bounds);
      rows = c.loop-field.invariant.rows;
    }

pub returns-clause-summary : goal.returns-clause-summary
returns-clause-summary c rows more was then =
    let e : c.loop-field.field ≡ field_count = omega arith in
    let new : ℕ → Option FieldSum = λ k. get_or c.args.later.now.fields k None in
    let total = c.args.self.now.rows + c.args.later.now.rows in
    rows_joined total _ c.args.self.now c.args.later.now c.loop-field.self.fields rows more (omega (arith, c.loop-field.invariant.rows)) was then
    (subst (λ (n : ℕ). IsMerged n total c.args.self.now.fields c.loop-field.self.fields new) e c.loop-field.invariant.fields)
