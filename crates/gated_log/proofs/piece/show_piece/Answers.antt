use Rattle.std.proofs.Common.{◌≡◌, List, ℕ, length, take, drop, sym, subst, arith}
use Rattle.disk_model.specs.Disk.{done_is}
use Rattle.gated_log.proofs.Bytes.{take_seam}
use Rattle.gated_log.proofs.SlotsShown.{shown_as}
use Rattle.gated_log.proofs.piece.show_piece.Goals as goal

pub returns-clause-shown : goal.returns-clause-shown
returns-clause-shown g c =
    let buf = c.read.new.buf in let place = c.args.place in
    shown_as g.V.Visitor.visits c.args.version c.show_batches.ensures.shown _ (λ xs n on x told long.
    on x (omega (arith, long, c.requires.within))
    (subst (λ (b : List ℕ). b ≡ take (length b) (drop place x)) (sym (take_seam c.min-held.result buf _ (omega (arith, c.read.auto.buf))))
    (done_is c.read.result c.in_ok-ok.ensures.done c.read.ensures.bytes x told)))
