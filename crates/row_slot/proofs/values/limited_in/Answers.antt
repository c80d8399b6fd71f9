use Rattle.std.proofs.Common.{◌∙◌, ap, arith, drop}
use Rattle.std.proofs.lemmas.List.{length-drop, take_all}
use Rattle.byteorder.specs.Endian.{little_number}
use Rattle.row_slot.proofs.values.limited_in.Goals as goal

pub returns : goal.returns
returns c =
    c.read_u64.ensures ∙ ap (little_number 8) (take_all 8 (drop 168 c.args.slot.now) (omega (arith, length-drop 168 c.args.slot.now, c.told-slot)))
