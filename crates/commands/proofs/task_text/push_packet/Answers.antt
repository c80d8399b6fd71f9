use Rattle.std.proofs.Common.{append_assoc, rules}
use Rattle.std.proofs.lemmas.Int.{to_z-of_z}
use Rattle.std.specs.Int.{w16}
use Rattle.std.specs.Prelude.{FitsSigned}
use Rattle.commands.specs.TaskText.{packet_numbers_line}
use Rattle.commands.proofs.PacketLines.{packet_shown}
use Rattle.commands.proofs.task_text.push_packet.Goals as goal

pub returns-clause-line : goal.returns-clause-line
unfolding packet_numbers_line
returns-clause-line c =
    let packet = c.args.packet.now in
    let inside : FitsSigned w16 packet.in_temp = search rules in
    let outside : FitsSigned w16 packet.out_temp = search rules in
    rw (
      packet_shown packet c.push_named.ensures.small inside outside c.push_named-3.ensures.small,
      c.push_bytes.ensures.bytes,
      c.push_named-3.ensures.text,
      c.push_named-2.ensures.text,
      c.from.ensures,
      c.push_signed_named-2.ensures.text,
      to_z-of_z w16 packet.out_temp outside,
      c.push_signed_named.ensures.text,
      to_z-of_z w16 packet.in_temp inside,
      c.push_named.ensures.text,
    )
    (simp append_assoc)
