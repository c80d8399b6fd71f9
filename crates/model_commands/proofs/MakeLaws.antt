-- A run that is made: its causes, and how it ends.
use Rattle.std.proofs.Common.{ℕ, List, [], ◌∷◌, Ok, Err, refl, ap, inl, inr}
use Rattle.std.specs.declared.result.Result.{Result}
use Rattle.run_output.specs.Ended.{IsOneOf, Lines, output_of}
use Rattle.run_output.specs.Output.{Output}
use Rattle.run_output.specs.Outside.{Meanings}
use Rattle.run_output.specs.declared.outside.Outside.{Outside}
use Rattle.run_output.specs.declared.status.Status.{Status}
use Rattle.run_output.specs.declared.status.Status.TheVariants.{Done, OutOfMemory, WriteFault}
use Rattle.run_output.proofs.Causes.{Causes}
use Rattle.model_commands.specs.MakeRun.{makes_run}
use Rattle.run_output.proofs.CallCauses.{memory_quiet, quiet_causes}

pub makes_run_causes : {F K L D : Type 0} (m : Meanings F K L D) (seed records : ℕ) → Causes m (makes_run seed records)
makes_run_causes m seed records old new (Ok text) did = quiet_causes m old new (Ok text) (memory_quiet {A = Lines} (Ok text) tt) did.1
makes_run_causes m seed records old new (Err output) did = quiet_causes m old new (Err output) (memory_quiet {A = Lines} (Err output) did.0) did.1

-- done, unless a write fault or want of memory kept the command from that
abbrev pub made : List Status
made = Done ∷ WriteFault ∷ OutOfMemory ∷ []

pub makes_run_complete : {F K L D : Type 0} (m : Meanings F K L D) (seed records : ℕ) (old new : Outside F K L D) (ended : Result Lines Output)
    → makes_run seed records old ended new → IsOneOf made (output_of ended).status
makes_run_complete m seed records old new (Ok text) did = inl refl
makes_run_complete m seed records old new (Err output) did = inr (inr (ap (λ (o : Output). o.status) did.0))
