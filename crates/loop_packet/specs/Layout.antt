-- The LOOP packet as a table: where each of its fields stands, and how (Davis serial manual, "LOOP data format").
use Rattle.std.specs.Prelude.{ℕ, ℤ, List, [], ◌∷◌, codes, map}
use Rattle.std.specs.List.{flat_map}
use Rattle.loop_packet.specs.declared.packet.LoopPacket.{LoopPacket}
use Rattle.loop_packet.specs.Part.{PacketPart, Value}
use Rattle.loop_packet.specs.Part.PacketPart.{Fixed, Byte, SignedByte, Word, SignedWord, Bytes}
use Rattle.loop_packet.specs.Part.Value.{Number, Signed, Many}

-- A field: its offset, its kind, and the value that a packet has of it, where it is none that every packet has.
pub record PacketField : Type 0 where
  pub offset : ℕ
  pub part : PacketPart
  pub value : LoopPacket → List Value

-- a field of fixed bytes, which every packet has
abbrev pub fixed : ℕ → List ℕ → PacketField
fixed offset text = record { offset = offset; part = Fixed text; value = λ packet. [] }

-- a field of one byte
abbrev pub byte : ℕ → (LoopPacket → ℕ) → PacketField
byte offset number = record { offset = offset; part = Byte; value = λ packet. Number (number packet) ∷ [] }

-- a field of two bytes
abbrev pub word : ℕ → (LoopPacket → ℕ) → PacketField
word offset number = record { offset = offset; part = Word; value = λ packet. Number (number packet) ∷ [] }

-- a field of one byte with a sign
abbrev pub signed_byte : ℕ → (LoopPacket → ℤ) → PacketField
signed_byte offset number = record { offset = offset; part = SignedByte; value = λ packet. Signed (number packet) ∷ [] }

-- a field of two bytes with a sign
abbrev pub signed_word : ℕ → (LoopPacket → ℤ) → PacketField
signed_word offset number = record { offset = offset; part = SignedWord; value = λ packet. Signed (number packet) ∷ [] }

-- a field of so many bytes
abbrev pub bytes : ℕ → ℕ → (LoopPacket → List ℕ) → PacketField
bytes offset count many = record { offset = offset; part = Bytes count; value = λ packet. Many (many packet) ∷ [] }

-- the fields in their order; the check stands behind them
abbrev pub packet_fields : List PacketField
packet_fields =
    fixed 0 (codes "LOO")
    ∷ signed_byte 3 (λ packet. packet.trend)
    ∷ fixed 4 (0 ∷ [])
    ∷ word 5 (λ packet. packet.next_slot)
    ∷ word 7 (λ packet. packet.barometer)
    ∷ signed_word 9 (λ packet. packet.in_temp)
    ∷ byte 11 (λ packet. packet.in_humidity)
    ∷ signed_word 12 (λ packet. packet.out_temp)
    ∷ byte 14 (λ packet. packet.wind)
    ∷ byte 15 (λ packet. packet.wind_ten)
    ∷ word 16 (λ packet. packet.wind_dir)
    ∷ bytes 18 7 (λ packet. packet.extra_temps)
    ∷ bytes 25 4 (λ packet. packet.soil_temps)
    ∷ bytes 29 4 (λ packet. packet.leaf_temps)
    ∷ byte 33 (λ packet. packet.out_humidity)
    ∷ bytes 34 7 (λ packet. packet.extra_humids)
    ∷ word 41 (λ packet. packet.rain_rate)
    ∷ byte 43 (λ packet. packet.uv)
    ∷ word 44 (λ packet. packet.radiation)
    ∷ word 46 (λ packet. packet.storm_rain)
    ∷ word 48 (λ packet. packet.storm_date)
    ∷ word 50 (λ packet. packet.day_rain)
    ∷ word 52 (λ packet. packet.month_rain)
    ∷ word 54 (λ packet. packet.year_rain)
    ∷ word 56 (λ packet. packet.day_et)
    ∷ word 58 (λ packet. packet.month_et)
    ∷ word 60 (λ packet. packet.year_et)
    ∷ bytes 62 4 (λ packet. packet.soil_moists)
    ∷ bytes 66 4 (λ packet. packet.leaf_wets)
    ∷ bytes 70 16 (λ packet. packet.alarms)
    ∷ byte 86 (λ packet. packet.tx_battery)
    ∷ word 87 (λ packet. packet.console_battery)
    ∷ byte 89 (λ packet. packet.icons)
    ∷ byte 90 (λ packet. packet.rule)
    ∷ word 91 (λ packet. packet.sunrise)
    ∷ word 93 (λ packet. packet.sunset)
    ∷ fixed 95 (10 ∷ 13 ∷ [])
    ∷ []

-- each part at its offset
abbrev pub layout : List (ℕ × PacketPart)
layout = map (λ field. (field.offset, field.part)) packet_fields

-- the values of a packet, in the order of their fields
abbrev pub values : LoopPacket → List Value
values packet = flat_map (λ field. field.value packet) packet_fields
