-- A sink that tells nothing of what it holds.
use Rattle.std.specs.Prelude.{ℕ, None}
use Rattle.station_io.specs.Sink.{Outlet}

-- it tells how often a write failed
abbrev pub untold_outlet : {S : Type 0} → (S → ℕ) → Outlet S
untold_outlet faults = record {
  taken = λ s. None;
  faults = faults;
  wrote = λ s bytes t. Unit {0};
  wrote_none = λ s. tt;
  wrote_joins = λ s t u xs ys one two. tt;
}
