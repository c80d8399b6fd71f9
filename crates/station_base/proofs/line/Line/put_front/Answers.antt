use Rattle.std.proofs.Common.{arith}
use Rattle.station_base.proofs.Lines.{put_piece}
use Rattle.station_base.proofs.line.Line.put_front.Goals as goal

pub returns-clause-text : goal.returns-clause-text
returns-clause-text g c =
    put_piece c.args.self.now.end _ c.args.count c.args.self.now.bytes c.copy_from_slice.new.self c.args.piece.now (omega arith) (omega arith) c.copy_from_slice.ensures.after
