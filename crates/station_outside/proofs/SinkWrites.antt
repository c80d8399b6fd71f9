-- Writes of a sink that tells nothing of what it holds.
use Rattle.std.proofs.Common.{ℕ, ◌≢◌, List, [], None, refl, arith}
use Rattle.causes.proofs.WritesInTurn.{writes_nothing}
use Rattle.station_io.specs.declared.sink.Put.{Put}
use Rattle.station_io.specs.declared.sink.Put.TheVariants.{Done, Failed}
use Rattle.station_io.specs.Sink.{Emits, WroteBy}
use Rattle.station_outside.specs.UntoldSink.{untold_outlet}

-- by the answer all of the bytes, or none, and nothing more is known
pub some_written : {S : Type 0} (faults : S → ℕ) (old new : S) (answer : Put) (bytes : List ℕ)
    → WroteBy (untold_outlet faults) old bytes answer new
some_written faults old new Done bytes = record { written = bytes; writes = refl; wrote = tt }
some_written faults old new Failed bytes = record { written = []; writes = (bytes, refl); wrote = tt }

-- it stays as it was where the write did not fail
pub emits_done : {S : Type 0} (faults : S → ℕ) (sink : S) (bytes : List ℕ) (answer : Put) → answer ≢ Failed
    → Emits (untold_outlet faults) sink bytes answer sink
emits_done faults sink bytes answer fits = record {
  done = λ _. tt;
  failed = λ _. writes_nothing None bytes;
  call = some_written faults sink sink answer bytes;
  cause = record { never_falls = omega arith; rose = λ e. absurd (fits e) };
  still = λ _. refl;
}
