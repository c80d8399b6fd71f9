use Rattle.row_slot.proofs.Bytes.{copied}
use Rattle.row_slot.proofs.writing.whole_slot.Goals as goal

pub returns : goal.returns
returns c =
    copied c.args.head.now c.args.numbers.now c.copy_from_slice.new.self c.copy_from_slice-2.new.self
    c.copy_from_slice.ensures.after c.copy_from_slice-2.ensures.after c.told-head c.told-numbers
