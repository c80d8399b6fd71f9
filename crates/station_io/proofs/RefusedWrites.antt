-- A write that a sink in memory refused.
use Rattle.std.proofs.Common.{ℕ, List, [], ◌≡◌, refl, sym, append-nil, Some}
use Rattle.causes.specs.Cause.{Cause}
use Rattle.causes.proofs.WritesInTurn.{writes_nothing}
use Rattle.station_io.specs.declared.sink.Put.TheVariants.{Done, Failed}
use Rattle.station_io.specs.Memory.{Bucket, bucket_outlet}
use Rattle.station_io.specs.Sink.{Emits}

-- it keeps its bytes, and counts the fault
pub refused : (old : Bucket) (bytes : List ℕ) (faults : ℕ) → Cause old.faults faults (Failed ≡ Failed)
    → Emits bucket_outlet old bytes Failed (record { bytes = old.bytes; capacity = old.capacity; faults = faults })
refused old bytes faults cause = record {
  done = λ e. absurd (let no : Failed ≡ Done = e in cc);
  failed = λ _. writes_nothing (Some old.bytes) bytes;
  call = record { written = []; writes = (bytes, refl); wrote = sym (append-nil old.bytes) };
  cause = cause;
  still = λ no. absurd (no refl);
}
