use Rattle.std.proofs.Common.{ℕ, ap, ◌∙◌, sym}
use Rattle.station_base.specs.FieldSet.{is_member}
use Rattle.station_base.proofs.FieldSets.{one_more, member_added, member_kept}
use Rattle.station_base.proofs.field_set.FieldSet.with.Goals as goal

pub invariant_of-result : goal.invariant_of-result
invariant_of-result c = one_more c.self.inside.bits c.index.result c.self.invariant c.index.ensures.range

pub returns-clause-added : goal.returns-clause-added
returns-clause-added c =
    ap (is_member _) (sym c.index.ensures.index) ∙ member_added c.self.inside.bits c.index.result c.index.ensures.range

pub returns-clause-others : goal.returns-clause-others
returns-clause-others c other differs =
    member_kept c.self.inside.bits c.index.result other c.index.ensures.range (λ e. differs (e ∙ c.index.ensures.index))
    ∙ ap (λ (n : ℕ). is_member n other) c.self.view_is
