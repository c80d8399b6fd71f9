use Rattle.std.proofs.Common.{◌∙◌, ap, arith}
use Rattle.daily_summary.specs.Parts.{field_entry}
use Rattle.daily_summary.proofs.RunningRows.{past_entry, told_entry}
use Rattle.daily_summary.proofs.running.RunningSummary.entry.Goals as goal

pub returns-then-field-ge-FIELD_COUNT : goal.returns-then-field-ge-FIELD_COUNT
returns-then-field-ge-FIELD_COUNT c = past_entry c.args.field c.args.self.now (omega (arith, c.requires.long))

pub returns : goal.returns
returns c =
    c.entry_of.ensures ∙ ap field_entry c.sum.ensures
    ∙ told_entry c.index-self-field.result c.args.field c.args.self.now (omega (arith, c.requires.long, c.if-field-ge-FIELD_COUNT.false))
