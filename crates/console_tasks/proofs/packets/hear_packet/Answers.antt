use Rattle.std.proofs.Common.{◌≡◌, ℕ, List, length, refl, ◌∙◌, ap, subst, arith, length-take, Err}
use Rattle.wake_retry.specs.Parts.{FallsShort, IsCutOff}
use Rattle.serial_link.proofs.JoinedCalls.{talks_as}
use Rattle.console_tasks.specs.declared.end.TaskEnd.TheVariants as task_end
use Rattle.console_tasks.specs.Parts.{HearsPacket}
use Rattle.console_tasks.proofs.Troubles.{talks_shown, want_no_fault}
use Rattle.console_tasks.proofs.HeardPackets.{packet_hears, packet_short, packet_cut, read_trouble}
use Rattle.console_tasks.proofs.packets.hear_packet.Goals as goal

pub returns-in-Full : goal.returns-in-Full
returns-in-Full g c =
    let bytes = c.listen.new.buf in
    let r = c.read_packet.result in
    let size : length bytes ≡ 99 = omega (arith, c.listen.auto.buf) in
    talks_shown r (HearsPacket r) (read_trouble bytes r c.read_packet.ensures) c.in-Full.ensures
    (λ t k. packet_hears bytes r t size k.0 k.1 c.read_packet.ensures)

pub returns-in-Short : goal.returns-in-Short
returns-in-Short g c =
    let n = c.in-Short.count in
    let size : length c.listen.new.buf ≡ 99 = omega (arith, c.listen.auto.buf) in
    talks_shown (Err (task_end.Short n)) (HearsPacket (Err (task_end.Short n))) tt c.in-Short.ensures
    (λ t k. packet_short n t k.0 (omega (arith, k.1, size))
    (ap (λ (x : List ℕ). length x) k.2 ∙ omega (arith, length-take n c.listen.new.buf, k.1)))

pub returns-in-LinkFault : goal.returns-in-LinkFault
returns-in-LinkFault g c =
    let size : length c.listen.new.buf ≡ 99 = omega (arith, c.listen.auto.buf) in
    talks_as (HearsPacket (Err task_end.LinkFault)) c.in-LinkFault.ensures (λ e. refl) (λ e. absurd (want_no_fault _ e refl))
    (λ t k more. packet_cut more t (subst (λ n. IsCutOff (FallsShort 10 n) t) size k))

pub returns-in-OutOfMemory : goal.returns-in-OutOfMemory
returns-in-OutOfMemory g c =
    let size : length c.listen.new.buf ≡ 99 = omega (arith, c.listen.auto.buf) in
    talks_as (HearsPacket (Err task_end.OutOfMemory)) c.in-OutOfMemory.ensures (λ e. absurd (want_no_fault _ refl e)) (λ e. refl)
    (λ t k more. packet_cut more t (subst (λ n. IsCutOff (FallsShort 10 n) t) size k))
