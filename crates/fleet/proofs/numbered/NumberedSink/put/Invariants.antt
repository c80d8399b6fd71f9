use Rattle.std.proofs.Common.{length}
use Rattle.fleet.proofs.PutPieces.{IsLeft}
use Rattle.fleet.proofs.numbered.NumberedSink.put.Given as goal

-- of the bytes this is left
abbrev pub invariant-loop-rest : goal.invariant-loop-rest
invariant-loop-rest g l = IsLeft g.K.Sink.outlet l.fn.self l.bytes l.self l.rest

abbrev pub decreases-loop-rest : goal.decreases-loop-rest
decreases-loop-rest g l = length l.rest
