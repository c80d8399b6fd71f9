use Rattle.row_slot.proofs.Form.{read_where_formed, read_when}
use Rattle.row_slot.proofs.Slots.{missing-row_in, printable-row_in, slot_of-row_in}
use Rattle.row_slot.proofs.reading.read_into.Goals as goal

pub returns-clause-well_formed : goal.returns-clause-well_formed
returns-clause-well_formed c = read_where_formed c.args.slot.now c.read_parts.result c.read_parts.new.row c.read_parts.ensures

pub returns-clause-printable : goal.returns-clause-printable
returns-clause-printable c formed =
    printable-row_in c.args.slot.now c.read_parts.new.row c.told-slot c.fits-slot (read_when c.args.slot.now c.read_parts.result c.read_parts.new.row c.read_parts.ensures formed)

pub returns-clause-limited : goal.returns-clause-limited
returns-clause-limited c formed = missing-row_in c.args.slot.now c.read_parts.new.row (read_when c.args.slot.now c.read_parts.result c.read_parts.new.row c.read_parts.ensures formed)

pub returns-clause-written_back : goal.returns-clause-written_back
returns-clause-written_back c formed =
    slot_of-row_in c.args.slot.now c.read_parts.new.row c.told-slot c.fits-slot (read_when c.args.slot.now c.read_parts.result c.read_parts.new.row c.read_parts.ensures formed)
