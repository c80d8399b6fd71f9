-- What a task gives is what its answers show.
use Rattle.std.proofs.Common.{◌≡◌, ℕ, ◌+◌, ◌-◌, ◌≤◌, true, List, [], ◌∷◌, ◌++◌, length, map, take, refl, sym, ap, subst, ◌∙◌, arith}
use Rattle.std.specs.Prelude.{nat_le, ◌&&◌}
use Rattle.std.specs.List.{flat_map}
use Rattle.std.proofs.lemmas.Bool.{and_parts, leb-true}
use Rattle.std.proofs.Math.Seq.{take-append_seam}
use Rattle.crc_ccitt.specs.Check.{sealed, check_bytes}
use Rattle.console_tasks.specs.Exchange.{ack_frame}
use Rattle.console_tasks.specs.TaskTalk.{DoesTask}
use Rattle.console_tasks.specs.Tasks.{reading_memory}
use Rattle.console_tasks.specs.declared.end.TaskEnd.{TaskEnd}
use Rattle.serial_link.specs.Traffic.{Traffic}
use Rattle.station_base.specs.ClockTime.{can_be_shown, clock_bytes, is_civil_second, time_shown}
use Rattle.station_base.specs.declared.clock.ClockTime.{ClockTime}
use Rattle.loop_packet.specs.declared.packet.LoopPacket.{LoopPacket}
use Rattle.loop_packet.specs.Reading.{packet_bytes}
use Rattle.commands.specs.TaskText.{first_answer, packet_line}

-- the bytes of a memory, behind 0x06 and before their check
pub memory_shown : (bytes : List ℕ) (count : ℕ) → length bytes ≡ count → take count (first_answer (ack_frame bytes ∷ [])) ≡ bytes
memory_shown bytes count long = ap (λ (n : ℕ). take n (sealed bytes)) (sym long) ∙ take-append_seam bytes (check_bytes bytes)

year_again : (year : ℕ) → 1900 ≤ year → 1900 + (year - 1900) ≡ year
year_again year from = omega arith

from_1900 : (time : ClockTime) → can_be_shown time ≡ true → 1900 ≤ time.year
from_1900 time can =
    let both = and_parts (nat_le 1900 time.year && nat_le time.year 2155) (is_civil_second time) can in
    leb-true 1900 time.year (and_parts (nat_le 1900 time.year) (nat_le time.year 2155) both.0).0

-- the time that a clock shows
pub clock_shown : (time : ClockTime) → can_be_shown time ≡ true → time_shown (first_answer (ack_frame (clock_bytes time) ∷ [])) ≡ time
clock_shown time can =
    ap (λ (y : ℕ). record {
      year = y;
      month = time.month;
      day = time.day;
      hour = time.hour;
      minute = time.minute;
      second = time.second;
    }) (year_again time.year (from_1900 time can))

-- the lines of packets, by what was heard of them
pub packets_shown : (packets : List LoopPacket)
    → flat_map (λ packet. packet_line (packet_bytes packet)) packets ≡ flat_map packet_line (map packet_bytes packets)
packets_shown [] = refl
packets_shown (packet ∷ packets) = ap (λ (lines : List ℕ). packet_line (packet_bytes packet) ++ lines) (packets_shown packets)

-- the same of as many bytes
pub as_many : {L : Type 0} {traffic : Traffic L} {old new : L} {answers : List (List ℕ)} {end : TaskEnd} (at n count : ℕ) →
    DoesTask traffic old (reading_memory at n) answers end new → n ≡ count → DoesTask traffic old (reading_memory at count) answers end new
as_many {L} {traffic} {old} {new} {answers} {end} at n count does same =
    subst (λ (m : ℕ). DoesTask traffic old (reading_memory at m) answers end new) same does
