-- The numbers in the bytes of a packet are the packet's.
use Rattle.std.proofs.Common.{◌≡◌, ◌<◌, drop, refl, ap, ◌∙◌}
use Rattle.std.specs.Prelude.{FitsSigned}
use Rattle.std.specs.Int.{w16, cast_signed, cast_unsigned}
use Rattle.std.proofs.lemmas.Int.{to_z-of_z}
use Rattle.loop_packet.specs.declared.packet.LoopPacket.{LoopPacket}
use Rattle.loop_packet.specs.Part.{byte_in, signed_word_in, word_in, signed_byte_of, signed_word_of, word_of}
use Rattle.loop_packet.specs.Reading.{packet_bytes, frame_of}
use Rattle.loop_packet.proofs.InOrder.{word_bits, two_read}
use Rattle.commands.specs.TaskText.{packet_numbers_line, packet_line}

barometer_shown : (p : LoopPacket) → p.barometer < 65536 → word_in (drop 7 (packet_bytes p)) ≡ p.barometer
unfolding word_in packet_bytes frame_of word_of signed_byte_of
barometer_shown p small = two_read p.barometer small

in_temp_shown : (p : LoopPacket) → FitsSigned w16 p.in_temp → signed_word_in (drop 9 (packet_bytes p)) ≡ p.in_temp
unfolding signed_word_in packet_bytes frame_of word_of signed_byte_of signed_word_of
in_temp_shown p fits =
    ap (cast_signed w16) (two_read (cast_unsigned w16 p.in_temp) (word_bits p.in_temp fits)) ∙ to_z-of_z w16 p.in_temp fits

out_temp_shown : (p : LoopPacket) → FitsSigned w16 p.out_temp → signed_word_in (drop 12 (packet_bytes p)) ≡ p.out_temp
unfolding signed_word_in packet_bytes frame_of word_of signed_byte_of signed_word_of
out_temp_shown p fits =
    ap (cast_signed w16) (two_read (cast_unsigned w16 p.out_temp) (word_bits p.out_temp fits)) ∙ to_z-of_z w16 p.out_temp fits

wind_shown : (p : LoopPacket) → byte_in (drop 14 (packet_bytes p)) ≡ p.wind
unfolding byte_in packet_bytes frame_of word_of signed_byte_of signed_word_of
wind_shown p = refl

direction_shown : (p : LoopPacket) → p.wind_dir < 65536 → word_in (drop 16 (packet_bytes p)) ≡ p.wind_dir
unfolding word_in packet_bytes frame_of word_of signed_byte_of signed_word_of
direction_shown p small = two_read p.wind_dir small

-- the line of a packet has its numbers
pub packet_shown : (p : LoopPacket) → p.barometer < 65536 → FitsSigned w16 p.in_temp → FitsSigned w16 p.out_temp → p.wind_dir < 65536 →
    packet_line (packet_bytes p) ≡ packet_numbers_line p.barometer p.in_temp p.out_temp p.wind p.wind_dir
packet_shown p barometer inside outside direction =
    rw (barometer_shown p barometer, in_temp_shown p inside, out_temp_shown p outside, wind_shown p, direction_shown p direction) refl
