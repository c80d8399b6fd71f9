-- The packet in which every value is 0.
use Rattle.std.specs.Prelude.{◌≡◌, pos}
use Rattle.std.specs.List.{AllByRecursion}
use Rattle.loop_packet.specs.declared.packet.LoopPacket.{LoopPacket}
use Rattle.loop_packet.specs.Part.{Value}
use Rattle.loop_packet.specs.Part.Value.{Number, Signed, Many}
use Rattle.loop_packet.specs.Layout.{values}

-- a value that is 0, or nothing but zeros
abbrev pub IsZero : Value → Type 0
IsZero (Number n) = n ≡ 0
IsZero (Signed z) = z ≡ pos 0
IsZero (Many bytes) = AllByRecursion (λ byte. byte ≡ 0) bytes

-- every value is 0
abbrev pub PacketIsBlank : LoopPacket → Type 0
PacketIsBlank packet = AllByRecursion IsZero (values packet)
