use Rattle.std.proofs.Common.{rules, ap, ◌≡◌, ◌∙◌, ◌∷◌, List, map, arith}
use Rattle.std.proofs.lemmas.List.{take_all}
use Rattle.std.specs.List.{flat_map}
use Rattle.loop_packet.specs.Reading.{packet_bytes}
use Rattle.loop_packet.specs.declared.packet.LoopPacket.{LoopPacket}
use Rattle.vantage_frames.specs.Ack.{ack}
use Rattle.commands.specs.TaskText.{packet_line}
use Rattle.commands.proofs.ShownAnswers.{packets_shown}
use Rattle.commands.proofs.asking.take_packets.Goals as goal

pub returns : goal.returns
returns g c =
    let packets = c.loop_packets-end.new.into.items in
    let same : c.as_slice-taken.result.now ≡ packets = search rules in
    let all = take_all c.loop-packet.packet-index c.as_slice-taken.result.now (omega arith) ∙ same in
    record {
      answers = ack ∷ map packet_bytes packets;
      talks = c.loop_packets-end.ensures.task;
      given = λ done. c.loop-packet.invariant.0
          ∙ ap (λ (ps : List LoopPacket). flat_map (λ packet. packet_line (packet_bytes packet)) ps) all ∙ packets_shown packets;
    }
