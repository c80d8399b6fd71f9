-- The steps that attach a file and that call an address.
use Rattle.std.specs.Prelude.{ℕ, ◌≡◌, Bool, List, Ok, Err}
use Rattle.std.specs.declared.result.Result.{Result}
use Rattle.disk_model.specs.Disk.{Attaches}
use Rattle.disk_model.specs.Medium.{Medium}
use Rattle.disk_model.specs.declared.disk.Disked.{Disked}
use Rattle.disk_model.specs.declared.disk.Disked.TheVariants as attach
use Rattle.serial_link.specs.Link.{Dials}
use Rattle.serial_link.specs.Traffic.{Traffic}
use Rattle.serial_link.specs.declared.link.Connected.{Connected}
use Rattle.serial_link.specs.declared.link.Connected.TheVariants as connected
use Rattle.serial_link.specs.declared.link.Side.{Side}
use Rattle.run_output.specs.Output.{Output, disk_fault, link_fault}

-- the answer of a step that attaches, or calls
abbrev pub by_disk : Disked → Result (Unit {0}) Output
by_disk attach.Done = Ok tt
by_disk attach.Failed = Err disk_fault

-- the answer of a step that calls an address
abbrev pub by_call : Connected → Result (Unit {0}) Output
by_call connected.Done = Ok tt
by_call connected.Failed = Err link_fault

-- A file of this name was attached once, and made where there was none if that was asked for.
pub record attaches {D : Type 0} (medium : Medium D) (name : List ℕ) (make : Bool)
    (old : D) (result : Result (Unit {0}) Output) (new : D) : Type 0 where
  pub answer : Disked
  pub did : Attaches medium old name make answer new
  pub given : result ≡ by_disk answer

-- The address was called once, or waited at once.
pub record calls {L : Type 0} (traffic : Traffic L) (side : Side) (address : List ℕ)
    (old : L) (result : Result (Unit {0}) Output) (new : L) : Type 0 where
  pub answer : Connected
  pub did : Dials traffic old side address answer new
  pub given : result ≡ by_call answer
