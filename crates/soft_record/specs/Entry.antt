-- Entries: packets with the moments at which they were heard. (This project's own.)
use Rattle.std.specs.Prelude.{ℕ, ◌≡◌, ◌+◌, ◌*◌, ◌==◌, if◌then◌else◌, List, length, drop, slice_index, Some, Ok}
use Rattle.std.specs.Int.{next_multiple_of}
use Rattle.station_base.specs.CivilMinute.{minute_of}
use Rattle.station_base.specs.Stamp.{stamp_of_words}
use Rattle.loop_packet.specs.Part.{word_in}
use Rattle.loop_packet.specs.Reading.{TellsPacket}
use Rattle.soft_record.specs.declared.entry.Entry.{Entry}

-- the bytes of an entry: two words, the second and a packet
abbrev pub packet_entry_size : ℕ
packet_entry_size = 104

-- the bytes are the words of date and time, the second of the minute, and a packet
pub record SpellsEntry (bytes : List ℕ) (e : Entry) : Type 0 where
  pub size : length bytes ≡ packet_entry_size
  pub stamp : stamp_of_words (word_in bytes) (word_in (drop 2 bytes)) ≡ Some e.stamp
  pub second : slice_index bytes 4 ≡ e.second
  pub packet : TellsPacket (drop 5 bytes) (Ok e.packet)

-- the seconds from 1970-01-01 00:00:00 to the entry
abbrev pub moment : Entry → ℕ
moment e = 60 * minute_of e.stamp + e.second

-- the earliest full minute that is not before the entry
abbrev pub full_minute : Entry → ℕ
full_minute e = minute_of e.stamp + (if e.second == 0 then 0 else 1)

-- the end of the entry's interval: the least multiple of the period that is not below that minute
abbrev pub interval_end : ℕ → Entry → ℕ
interval_end period e = next_multiple_of (full_minute e) period
