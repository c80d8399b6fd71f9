use Rattle.dmpaft_driver.proofs.Trials.{spells_next}
use Rattle.dmpaft_driver.proofs.trying.said_of.Goals as goal

pub items-preserved : goal.items-preserved
items-preserved c = record {
  spells = spells_next c.args.words.now c.args.items.now c.items.count c.items.left.now c.items.rest.now c.in-Some.byte.now c.in-Some.others.now c.in-Some-split_first.item.now c.in-Some-split_first.later.now
      c.is_empty.result c.items.invariant.spells c.in-Some.ensures.cases.0 c.in-Some-split_first.ensures.cases.0 c.is_empty.ensures c.if-not-is_next.ensures;
}
