-- A step that writes an output piece by piece, and leaves its last piece to the end of the run.
use Rattle.std.specs.Prelude.{ℕ, ◌≡◌, ◌⊎◌, List, Err}
use Rattle.std.specs.declared.option.Option.{Option}
use Rattle.std.specs.declared.result.Result.{Result}
use Rattle.causes.specs.Cause.{Cause}
use Rattle.causes.specs.Written.{Leaves, WritesPart}
use Rattle.station_io.specs.Sink.{Outlet}
use Rattle.run_output.specs.Ended.{EndsBy, Lines, output_of}
use Rattle.run_output.specs.Output.{Output, write_fault}
use Rattle.run_output.specs.declared.status.Status.TheVariants.{WriteFault}

-- Of an output this is left, with the same status.
pub record OutputIsLeft (old now : Option (List ℕ)) (all left : Output) : Type 0 where
  pub text : Leaves old now all.text left.text
  pub status : left.status ≡ all.status

-- a prefix of the output was written, and the rest is given; or a write failed after a prefix of it
pub record streams {S : Type 0} (outlet : Outlet S) (all : Output) (old : S) (result : Result Lines Output) (new : S)
    : Type 0 where
  pub written : OutputIsLeft (outlet.taken old) (outlet.taken new) all (output_of result)
      ⊎ ((result ≡ Err write_fault) × WritesPart (outlet.taken old) (outlet.taken new) all.text)
  pub cause : Cause (outlet.faults old) (outlet.faults new) (EndsBy WriteFault result)
  pub still : ¬ (EndsBy WriteFault result) → outlet.faults new ≡ outlet.faults old
