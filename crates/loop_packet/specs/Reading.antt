-- What the reading of a packet answers (the order of its faults is this project's profile).
use Rattle.std.specs.Prelude.{ℕ, ◌≡◌, ◌≢◌, List, [], ◌∷◌, codes, take, drop, slice_index, Ok, Err}
use Rattle.std.specs.declared.result.Result.{Result}
use Rattle.crc_ccitt.specs.Check.{check, sealed}
use Rattle.loop_packet.specs.declared.packet.LoopPacket.{LoopPacket}
use Rattle.loop_packet.specs.declared.fault.LoopFault.{LoopFault}
use Rattle.loop_packet.specs.declared.fault.LoopFault.TheVariants.{BadMark, BadType, BadEnd, BadCheck}
use Rattle.loop_packet.specs.Part.{values_of_parts, spelled_parts}
use Rattle.loop_packet.specs.Layout.{layout, values}

-- the first three bytes are LOO
abbrev pub HasLoopMark : List ℕ → Type 0
HasLoopMark bytes = take 3 bytes ≡ codes "LOO"

-- the type is that of a LOOP packet
abbrev pub IsLoop : List ℕ → Type 0
IsLoop bytes = slice_index bytes 4 ≡ 0

-- LF and CR stand before the check
abbrev pub IsEnded : List ℕ → Type 0
IsEnded bytes = take 2 (drop 95 bytes) ≡ 10 ∷ 13 ∷ []

-- these are the values in the bytes, each at its offset
unfoldable pub HasValues : LoopPacket → List ℕ → Type 0
HasValues packet bytes = values packet ≡ values_of_parts layout bytes

-- the packet, or the first fault in this order
abbrev pub TellsPacket : List ℕ → Result LoopPacket LoopFault → Type 0
TellsPacket bytes (Ok packet) =
    HasLoopMark bytes × IsLoop bytes × IsEnded bytes × (check bytes ≡ 0) × HasValues packet bytes
TellsPacket bytes (Err BadMark) = ¬ HasLoopMark bytes
TellsPacket bytes (Err (BadType kind)) = HasLoopMark bytes × (slice_index bytes 4 ≡ kind) × (kind ≢ 0)
TellsPacket bytes (Err BadEnd) = HasLoopMark bytes × IsLoop bytes × (¬ IsEnded bytes)
TellsPacket bytes (Err BadCheck) = HasLoopMark bytes × IsLoop bytes × IsEnded bytes × (check bytes ≢ 0)

-- a body with its check behind it, under a name that proofs leave closed
unfoldable pub frame_of : List ℕ → List ℕ
frame_of body = sealed body

-- the bytes of a packet: its parts, and the check behind them
unfoldable pub packet_bytes : LoopPacket → List ℕ
packet_bytes packet = frame_of (spelled_parts layout (values packet))
