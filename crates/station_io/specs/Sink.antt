-- A sink of bytes: what it tells, and what one write does.
use Rattle.std.specs.Prelude.{ℕ, ◌≡◌, ◌≢◌, List, [], ◌++◌, Option}
use Rattle.std.specs.Io.KnownBytes.{Appends}
use Rattle.causes.specs.Cause.{Cause}
use Rattle.causes.specs.Lists.{IsFrontOf}
use Rattle.causes.specs.Written.{WritesPart}
use Rattle.station_io.specs.declared.sink.Put.{Put}
use Rattle.station_io.specs.declared.sink.Put.TheVariants.{Done, Failed}

-- What sinks of type S tell: the bytes that were taken, where that is told; how often a write failed, a count that
-- stops at 2 ^ 64 - 1; and that one became another as these bytes were written. By no bytes a sink stays itself, and
-- two writes in a row are one of both.
pub record Outlet (S : Type 0) : Type 1 where
  pub taken : S → Option (List ℕ)
  pub faults : S → ℕ
  pub wrote : S → List ℕ → S → Type 0
  pub wrote_none : (s : S) → wrote s [] s
  pub wrote_joins : (s t u : S) (xs ys : List ℕ) → wrote s xs t → wrote t ys u → wrote s (xs ++ ys) u

-- what a write of these bytes wrote, by its answer: all of them, or a prefix of them
abbrev pub SinkWrites : Put → List ℕ → List ℕ → Type 0
SinkWrites Done bytes written = written ≡ bytes
SinkWrites Failed bytes written = IsFrontOf written bytes

-- By a write of these bytes that gave this answer, a sink became another: so much was written, all of the bytes or a
-- prefix of them.
pub record WroteBy {S : Type 0} (outlet : Outlet S) (old : S) (bytes : List ℕ) (answer : Put) (new : S) : Type 0 where
  pub written : List ℕ
  pub writes : SinkWrites answer bytes written
  pub wrote : outlet.wrote old written new

-- One write of these bytes gave this answer: all of them were taken, or it failed after a prefix of them. This is
-- said of the bytes, where they are told, and of the call. Only a write that failed is counted.
pub record Emits {S : Type 0} (outlet : Outlet S) (old : S) (bytes : List ℕ) (answer : Put) (new : S) : Type 0 where
  pub done : answer ≡ Done → Appends (outlet.taken old) (outlet.taken new) bytes
  pub failed : answer ≡ Failed → WritesPart (outlet.taken old) (outlet.taken new) bytes
  pub call : WroteBy outlet old bytes answer new
  pub cause : Cause (outlet.faults old) (outlet.faults new) (answer ≡ Failed)
  pub still : answer ≢ Failed → outlet.faults new ≡ outlet.faults old
