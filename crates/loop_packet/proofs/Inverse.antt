-- Packets that are read and written again.
use Rattle.std.proofs.Common.{◌≡◌, ℕ, ◌<◌, ◌≤◌, List, [], ◌∷◌, length, take, drop, get_or, refl, sym, ap, ◌∙◌, arith}
use Rattle.std.specs.Prelude.{Ok, Err, slice_index}
use Rattle.std.specs.declared.result.Result.{Result}
use Rattle.std.proofs.lemmas.List.{get_or-drop}
use Rattle.std.proofs.Math.Seq.{drop-cons}
use Rattle.causes.specs.Lists.{AreBytes}
use Rattle.crc_ccitt.specs.Check.{check_bytes, sealed}
use Rattle.crc_ccitt.proofs.Sealed.{check-sealed}
use Rattle.loop_packet.specs.declared.packet.LoopPacket.{LoopPacket}
use Rattle.loop_packet.specs.declared.fault.LoopFault.{LoopFault}
use Rattle.loop_packet.specs.declared.fault.LoopFault.TheVariants.{BadMark, BadType, BadEnd, BadCheck}
use Rattle.loop_packet.specs.Layout.{layout, values}
use Rattle.loop_packet.specs.Part.{spelled_parts}
use Rattle.loop_packet.specs.Reading.{TellsPacket, HasValues, HasLoopMark, IsLoop, IsEnded, packet_bytes, frame_of}
use Rattle.loop_packet.proofs.InOrder.{AreOf, spelled_again, values_again, fixed_again}
use Rattle.loop_packet.proofs.SamePacket.{same_packet}

-- one answer is told of a packet
pub tells_one : (bytes : List ℕ) (answer : Result LoopPacket LoopFault) (packet : LoopPacket) → TellsPacket bytes answer → TellsPacket bytes (Ok packet) → answer ≡ Ok packet
unfolding HasValues
tells_one bytes (Ok other) packet told asked = ap Ok (same_packet other packet (told.4 ∙ sym asked.4))
tells_one bytes (Err BadMark) packet told asked = absurd (told asked.0)
tells_one bytes (Err (BadType kind)) packet told asked = absurd (told.2 (sym told.1 ∙ asked.1))
tells_one bytes (Err BadEnd) packet told asked = absurd (told.2 asked.2)
tells_one bytes (Err BadCheck) packet told asked = absurd (told.3 asked.3)

-- the byte at a place, as what stands there
one_at : (bytes : List ℕ) (place n : ℕ) → place < length bytes → slice_index bytes place ≡ n → take 1 (drop place bytes) ≡ n ∷ []
one_at bytes place n within same =
    ap (take 1) (drop-cons bytes place 0 within) ∙ ap (λ (m : ℕ). m ∷ []) same

-- what is read of bytes is written as these bytes
pub written_again : (packet : LoopPacket) (bytes : List ℕ) → length bytes ≡ 99 → AreBytes bytes → HasLoopMark bytes → IsLoop bytes → IsEnded bytes → bytes ≡ sealed (take 97 bytes) → HasValues packet bytes → bytes ≡ packet_bytes packet
unfolding HasValues packet_bytes frame_of
written_again packet bytes long fits marked loop ended whole has =
    let within : 4 < length bytes = omega arith in
    let room : 97 ≤ length bytes = omega arith in
    let body : spelled_parts layout (values packet) ≡ take 97 bytes =
    ap (spelled_parts layout) has ∙ spelled_again layout 0 bytes refl (marked, (one_at bytes 4 0 within loop, (ended, tt))) room fits in
    whole ∙ ap sealed (sym body)

-- what stands at a place, as the byte
at_of_one : (xs : List ℕ) (n : ℕ) → take 1 xs ≡ n ∷ [] → get_or xs 0 0 ≡ n
at_of_one [] n same = cc
at_of_one (x ∷ xs) n same = cc

-- what is written of a packet is told of it
pub told_of_packet : (packet : LoopPacket) → AreOf layout (values packet) → TellsPacket (packet_bytes packet) (Ok packet)
unfolding HasValues packet_bytes frame_of
told_of_packet packet are =
    let body : List ℕ = spelled_parts layout (values packet) in
    let fixed = fixed_again layout (values packet) [] (check_bytes body) 0 refl refl are in
    let kind : get_or (sealed body) 4 0 ≡ 0 = sym (get_or-drop 4 (sealed body) 0 0) ∙ at_of_one (drop 4 (sealed body)) 0 fixed.1.0 in
    (fixed.0, kind, fixed.1.1.0, check-sealed body, sym (values_again layout (values packet) [] (check_bytes body) 0 refl refl are))
