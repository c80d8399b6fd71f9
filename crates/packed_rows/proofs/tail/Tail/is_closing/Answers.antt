use Rattle.std.proofs.Common.{◌≡◌, inl, inr, None, ◌∙◌}
use Rattle.packed_rows.proofs.TailLaws.{none_last, not_closing, is_none_of}
use Rattle.packed_rows.proofs.tail.Tail.is_closing.Goals as goal

pub returns-then-is_none : goal.returns-then-is_none
returns-then-is_none c rows ends =
    let none : None ≡ c.args.self.now.last = is_none_of c.args.self.now.last c.is_none.result c.is_none.ensures c.if-is_none.true in
    not_closing rows c.args.shown c.args.slot.now (inl (none_last rows (none ∙ ends.last)))

pub returns-then-shown-ge-CLOSING : goal.returns-then-shown-ge-CLOSING
returns-then-shown-ge-CLOSING c rows ends = not_closing rows c.args.shown c.args.slot.now (inr c.if-shown-ge-CLOSING.true)
