-- A summary as bytes, in thirteen parts of three fields each. The layout is this project's own.
use Rattle.std.specs.Prelude.{ℕ, ◌+◌, ◌*◌, ◌<◌, ◌^◌, ◌++◌, ◌≡◌, List, drop, flat_map, length, replicate, take}
use Rattle.std.specs.Prelude.{FitsSigned, IfSome, None, Some, slice_index_or}
use Rattle.std.specs.declared.option.Option.{Option}
use Rattle.std.specs.Int.{w32, w64, cast_signed, cast_unsigned}
use Rattle.std.specs.List.{range_with_len}
use Rattle.byteorder.specs.Endian.{little_bytes}
use Rattle.row_slot.specs.Slot.{number_at}
use Rattle.station_base.specs.CivilMinute.{CivilMinute, IsCivilMinute}
use Rattle.station_base.specs.Stamp.{date_word_of, time_word_of, stamp_of_words}
use Rattle.daily_summary.specs.declared.field_sum.FieldSum.{FieldSum}
use Rattle.daily_summary.specs.declared.summary.DaySummary.{DaySummary}
use Rattle.station_base.specs.Fields.{field_count}

-- the bytes of the entry of a field
abbrev pub entry_size : ℕ
entry_size = 44

-- the two words of a stamp
abbrev pub stamp_bytes : CivilMinute → List ℕ
stamp_bytes stamp = little_bytes 2 (date_word_of stamp) ++ little_bytes 2 (time_word_of stamp)

-- the 44 bytes of a field: the numbers with their low bytes first, or zeros where it has no value
abbrev pub field_entry : Option FieldSum → List ℕ
field_entry None = replicate entry_size 0
field_entry (Some s) =
    little_bytes 4 (cast_unsigned w32 s.least) ++ (stamp_bytes s.least_at
    ++ (little_bytes 4 (cast_unsigned w32 s.greatest) ++ (stamp_bytes s.greatest_at
    ++ (little_bytes 8 (cast_unsigned w64 s.sum) ++ (little_bytes 4 s.count
    ++ (little_bytes 8 (cast_unsigned w64 s.wsum) ++ little_bytes 8 s.sumtime))))))

-- the entry of a field by its number; zeros past the last
unfoldable pub entry_at : ℕ → DaySummary → List ℕ
entry_at field s = field_entry (slice_index_or s.fields field None)

-- the bytes of a part
abbrev pub part_size : ℕ
part_size = 132

-- the parts of a summary, each of which has a slot
abbrev pub part_count : ℕ
part_count = 13

-- part k: the entries of the fields 3 * k, 3 * k + 1 and 3 * k + 2
abbrev pub summary_part : ℕ → DaySummary → List ℕ
summary_part k s = entry_at (3 * k) s ++ entry_at (3 * k + 1) s ++ entry_at (3 * k + 2) s

-- all parts one behind another
abbrev pub summary_parts : DaySummary → List ℕ
summary_parts s = flat_map (λ k. summary_part k s) (range_with_len 0 part_count)

-- the entry of a field in the bytes of all parts
abbrev pub entry_in : ℕ → List ℕ → List ℕ
entry_in field parts = take entry_size (drop (entry_size * field) parts)

-- the stamp that the two words at a place name, if they name one
abbrev pub stamp_at : ℕ → List ℕ → Option CivilMinute
stamp_at place entry = stamp_of_words (number_at 2 place entry) (number_at 2 (place + 2) entry)

-- the number of values that an entry tells
abbrev pub count_in : List ℕ → ℕ
count_in entry = number_at 4 24 entry

-- the numbers of an entry beside its two stamps, where there are both
abbrev pub sum_with : Option CivilMinute → Option CivilMinute → List ℕ → Option FieldSum
sum_with None greatest_at entry = None
sum_with (Some least_at) None entry = None
sum_with (Some least_at) (Some greatest_at) entry = Some (record {
  least = cast_signed w32 (number_at 4 0 entry);
  least_at = least_at;
  greatest = cast_signed w32 (number_at 4 8 entry);
  greatest_at = greatest_at;
  sum = cast_signed w64 (number_at 8 16 entry);
  count = count_in entry;
  wsum = cast_signed w64 (number_at 8 28 entry);
  sumtime = number_at 8 36 entry;
})

-- what the bytes of an entry tell, where their words name stamps
abbrev pub sum_in : List ℕ → Option FieldSum
sum_in entry = sum_with (stamp_at 4 entry) (stamp_at 12 entry) entry

-- numbers and stamps of the types that they have in each FieldSum
pub record IsTyped (s : FieldSum) : Type 0 where
  pub least : FitsSigned w32 s.least
  pub least_at : IsCivilMinute s.least_at
  pub greatest : FitsSigned w32 s.greatest
  pub greatest_at : IsCivilMinute s.greatest_at
  pub sum : FitsSigned w64 s.sum
  pub count : s.count < 2 ^ 32
  pub wsum : FitsSigned w64 s.wsum
  pub sumtime : s.sumtime < 2 ^ 64

-- the same of each field, of which there are 37
pub record AreTyped (s : DaySummary) : Type 0 where
  pub long : length s.fields ≡ field_count
  pub each : (field : ℕ) → IfSome (slice_index_or s.fields field None) IsTyped
