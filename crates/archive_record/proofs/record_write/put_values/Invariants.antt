use Rattle.std.proofs.Common.{◌≡◌, ◌⊎◌, ℕ, ◌<◌, get_or, slice_index, None}
use Rattle.archive_record.specs.Place.{CanHold, value_in}
use Rattle.archive_record.specs.Table.{place_of}
use Rattle.archive_record.proofs.record_write.put_values.Given as goal

abbrev pub invariant-loop-field : goal.invariant-loop-field
invariant-loop-field l = record {
  told : (k : ℕ) → k < l.field → value_in l.bytes (place_of k) ≡ get_or l.values k None;
  can : (k : ℕ) → k < l.field → CanHold (place_of k) (get_or l.values k None);
  others : (i : ℕ) → (i < 4) ⊎ (i ≡ 42) → slice_index l.bytes i ≡ slice_index l.initial.bytes i;
}
