use Rattle.std.proofs.Common.{◌≡◌, ◌*◌, ◌/◌, List, ℕ, length, sym, subst, arith}
use Rattle.disk_model.specs.Disk.{done_is}
use Rattle.gated_log.specs.Log.{in_slots, as_handed}
use Rattle.gated_log.specs.Layout.{slot_size}
use Rattle.gated_log.proofs.Bytes.{take_seam}
use Rattle.gated_log.proofs.Chains.{length-in_slots}
use Rattle.gated_log.proofs.SlotsShown.{batch_alone}
use Rattle.gated_log.proofs.piece.show_batch.Goals as goal

pub returns-clause-shown : goal.returns-clause-shown
returns-clause-shown g c =
    let buf = c.read.new.buf in let place = c.args.place in let n = c.args.count in
    let saw = λ (xs : List (List ℕ)). g.V.Visitor.visits.saw c.args.version c.args.visitor.now xs c.show.new.visitor in
    let long : length buf ≡ slot_size * n = omega (arith, c.read.auto.buf) in
    let count : length buf / slot_size ≡ n = omega (arith, long) in
    record {
      slots = in_slots n (as_handed buf);
      saw = subst (λ (k : ℕ). saw (in_slots k (as_handed buf))) count
          (subst (λ (b : List ℕ). saw (in_slots (length b / slot_size) (as_handed b))) (take_seam (slot_size * n) buf _ (sym long)) c.show.ensures);
      count_is = sym (length-in_slots n (as_handed buf));
      are = λ x told within there. batch_alone x buf place n within (done_is c.read.result c.in_ok-ok.ensures.done c.read.ensures.bytes x told) long there;
    }
