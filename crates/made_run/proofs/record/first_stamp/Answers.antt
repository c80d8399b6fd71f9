use Rattle.std.proofs.Common.{IsSome, refl, sym, subst, ◌∙◌}
use Rattle.std.proofs.lemmas.Option.{same_Some}
use Rattle.made_run.specs.Made.{first_due}
use Rattle.made_run.proofs.Stepwise.{first_read}
use Rattle.made_run.proofs.record.first_stamp.Goals as goal

pub unwrap-requires : goal.unwrap-requires
unwrap-requires c = subst IsSome (sym (c.from_text.ensures.exact ∙ first_read)) refl

pub returns : goal.returns
returns c = same_Some c.unwrap.result first_due (sym c.unwrap.ensures ∙ c.from_text.ensures.exact ∙ first_read)
