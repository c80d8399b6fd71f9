-- The status of a run, and the step that ended it so.
use Rattle.std.proofs.Common.{◌≡◌, ◌≢◌, ℕ, Bool, List, Ok, Err, refl, sym, ap, subst, ◌∙◌}
use Rattle.std.specs.declared.result.Result.{Result}
use Rattle.disk_model.specs.Medium.{Medium}
use Rattle.disk_model.specs.declared.disk.Disked.{Disked}
use Rattle.disk_model.specs.declared.disk.Disked.TheVariants as attach
use Rattle.serial_link.specs.Traffic.{Traffic}
use Rattle.serial_link.specs.declared.link.Connected.{Connected}
use Rattle.serial_link.specs.declared.link.Connected.TheVariants as connected
use Rattle.serial_link.specs.declared.link.Side.{Side}
use Rattle.run_output.specs.Calls.{attaches, by_call, by_disk, calls}
use Rattle.run_output.specs.Ended.{EndsAmong, EndsBy, IsOneOf, Lines, output_of}
use Rattle.run_output.specs.Output.{Output}
use Rattle.run_output.specs.declared.status.Status.{Status}
use Rattle.run_output.specs.declared.status.Status.TheVariants.{DiskFault, Done, LinkFault}

-- what is left of a run that a step ended so has that status
pub has_status : (status : Status) (result : Result Lines Output) (output : Output) → output_of result ≡ output → EndsBy status result
    → output.status ≡ status
has_status status (Ok text) output left ends = absurd ends
has_status status (Err given) output left ends = ap (λ (o : Output). o.status) (sym left) ∙ ends

-- and where that has another status than Done, a step ended the run so
pub ends_so : (status : Status) (result : Result Lines Output) (output : Output) → output_of result ≡ output → status ≢ Done
    → output.status ≡ status → EndsBy status result
ends_so status (Ok text) output left other is = other (sym (ap (λ (o : Output). o.status) left ∙ is))
ends_so status (Err given) output left other is = ap (λ (o : Output). o.status) left ∙ is

-- an attach ends a run by a disk fault
by_disk_ends : (answer : Disked) (result : Result (Unit {0}) Output) (output : Output) → result ≡ by_disk answer → result ≡ Err output
    → output.status ≡ DiskFault
by_disk_ends attach.Done result output is ends = cc
by_disk_ends attach.Failed result output is ends = cc

pub attach_ends : {D : Type 0} (medium : Medium D) (name : List ℕ) (make : Bool) (old new : D) (output : Output)
    → attaches medium name make old (Err output) new → output.status ≡ DiskFault
attach_ends medium name make old new output did = by_disk_ends did.answer (Err output) output did.given refl

-- a call ends it by a link fault
by_call_ends : (answer : Connected) (result : Result (Unit {0}) Output) (output : Output) → result ≡ by_call answer → result ≡ Err output
    → output.status ≡ LinkFault
by_call_ends connected.Done result output is ends = cc
by_call_ends connected.Failed result output is ends = cc

pub call_ends : {L : Type 0} (traffic : Traffic L) (side : Side) (address : List ℕ) (old new : L) (output : Output)
    → calls traffic side address old (Err output) new → output.status ≡ LinkFault
call_ends traffic side address old new output did = by_call_ends did.answer (Err output) output did.given refl

-- what is left of a run has one of these statuses, and it is not done: a step ended it with that
pub ends_among : (statuses : List Status) (result : Result Lines Output) (output : Output) → output_of result ≡ output → output.status ≢ Done
    → IsOneOf statuses output.status → EndsAmong statuses result
ends_among statuses (Ok text) output left other is = other (ap (λ (o : Output). o.status) (sym left))
ends_among statuses (Err given) output left other is = subst (λ (o : Output). IsOneOf statuses o.status) (sym left) is
