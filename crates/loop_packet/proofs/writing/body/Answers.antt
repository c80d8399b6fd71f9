use Rattle.loop_packet.proofs.Pieces.{room}
use Rattle.loop_packet.proofs.writing.body.Goals as goal

pub unwrap-requires : goal.unwrap-requires
unwrap-requires c = c.try_extend_from_slice.ensures.variant.1 (room _ _ _ _ _ c.loop-piece-test.true c.requires c.loop-piece.invariant)
