use Rattle.byteorder.specs.Endian.{little_bytes}
use Rattle.row_slot.proofs.Bytes.{put_last}
use Rattle.row_slot.proofs.writing.set_limited.Goals as goal

pub returns : goal.returns
returns c = put_last 8 c.args.slot.now (little_bytes 8 c.args.limited) c.write_u64.new.buf c.told-slot c.write_u64.ensures
