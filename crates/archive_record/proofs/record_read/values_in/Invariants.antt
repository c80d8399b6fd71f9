use Rattle.std.proofs.Common.{◌≡◌, ℕ, ◌<◌, get_or, length, None}
use Rattle.archive_record.specs.Place.{value_in}
use Rattle.archive_record.specs.Table.{place_of}
use Rattle.archive_record.proofs.record_read.values_in.Given as goal
use Rattle.station_base.specs.Fields.{field_count}

abbrev pub invariant-loop-field : goal.invariant-loop-field
invariant-loop-field l = record {
  long : length l.values ≡ field_count;
  read : (k : ℕ) → k < l.field → get_or l.values k None ≡ value_in l.bytes (place_of k);
}
