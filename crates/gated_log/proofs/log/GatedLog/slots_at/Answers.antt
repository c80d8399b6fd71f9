use Rattle.std.proofs.Common.{◌≡◌, ◌+◌, ◌*◌, List, ℕ, [], length, take, drop, get_or, ap, subst, arith, ⊎_elim, ◌<◌}
use Rattle.gated_log.specs.Stands.{IsSlot}
use Rattle.gated_log.proofs.Made.{on_done}
use Rattle.gated_log.proofs.SlotAt.{slot_at, slot_within}
use Rattle.gated_log.proofs.log.GatedLog.slots_at.Goals as goal
use Rattle.gated_log.specs.Layout.{slot_size}

pub returns-clause-bytes : goal.returns-clause-bytes
returns-clause-bytes g c = on_done _ _ c.read.result c.read.ensures.bytes (λ read slots stands x told k room.
    let buf = c.read.new.buf in
    let n = c.args.n in
    let within : n + k < length slots = omega (arith, c.requires.within, c.requires.shape.whole, c.read.auto.buf, stands.count_is, room) in
    let is : take slot_size (drop (slot_size * (n + k + 1)) x) ≡ take slot_size (drop (slot_size * k) buf) = slot_within n k (length buf) x buf (read x told) room in
    ⊎_elim (λ begins. subst (λ (b : List ℕ). IsSlot (get_or slots (n + k) []) b) is (slot_at stands.before x slots (n + k) stands.chain begins within))
    (λ short. absurd (omega (arith, ap length short.1, within))) (stands.reads x told))
