use Rattle.std.proofs.Common.{◌≡◌, ◌*◌, ◌≤◌, take}
use Rattle.std.specs.List.{flat_map}
use Rattle.arrayvec.specs.ArrayVec.{array_vec_len}
use Rattle.loop_packet.specs.Reading.{packet_bytes}
use Rattle.commands.specs.TaskText.{packet_line}
use Rattle.commands.proofs.asking.take_packets.Given as goal

-- the lines of the packets before
abbrev pub invariant-loop-packet : goal.invariant-loop-packet
invariant-loop-packet g l =
    (l.text.items ≡ flat_map (λ packet. packet_line (packet_bytes packet)) (take l.packet-index l.taken))
    × (array_vec_len l.text ≤ 100 * l.packet-index)
