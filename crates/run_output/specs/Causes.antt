-- What a step that ended the run says of the outside: a status of a fault is given where a fault was counted.
use Rattle.std.specs.Prelude.{ℕ, ◌≡◌, ◌⊎◌, ◌≤◌, false, List}
use Rattle.std.specs.declared.result.Result.{Result}
use Rattle.causes.specs.Cause.{Cause, Rose}
use Rattle.disk_model.specs.Calls.{DiskCall}
use Rattle.disk_model.specs.Medium.{Medium}
use Rattle.gated_log.specs.Calls.{any_failed}
use Rattle.run_output.specs.Ended.{EndsBy}
use Rattle.run_output.specs.Output.{Output}
use Rattle.run_output.specs.Outside.{Meanings}
use Rattle.run_output.specs.declared.outside.Outside.{Outside}
use Rattle.run_output.specs.declared.status.Status.TheVariants.{DiskFault, LinkFault, ReadFault, WriteFault}

-- Calls of which none failed made the one disk of the other.
pub record WentWell {D : Type 0} (medium : Medium D) (old new : D) : Type 0 where
  pub calls : List DiskCall
  pub by : medium.went old calls new
  pub well : any_failed calls ≡ false

-- the count of faults of one of the disks rose
abbrev pub RoseOnOne : {D : Type 0} → Medium D → D → D → D → D → Type 0
RoseOnOne medium disk second disk' second' =
    Rose (medium.faults disk) (medium.faults disk') ⊎ Rose (medium.faults second) (medium.faults second')

-- The count of a part never falls, and rises where the run ends by the fault of that part. Where it does not, nor by a
-- write that failed behind the fault, the count stays.
pub record CountsFault (before after : ℕ) (fault cut : Type 0) : Type 0 where
  pub cause : Cause before after fault
  pub still : ¬ fault → ¬ cut → after ≡ before

-- So it is of the two disks, of which one failed where the run ends by a disk fault.
pub record CountsDisks {D : Type 0} (medium : Medium D) (disk second disk' second' : D)
    (fault cut : Type 0) : Type 0 where
  pub rose : fault → RoseOnOne medium disk second disk' second'
  pub disk_never_falls : medium.faults disk ≤ medium.faults disk'
  pub second_never_falls : medium.faults second ≤ medium.faults second'
  pub disk_well : ¬ fault → ¬ cut → WentWell medium disk disk'
  pub second_well : ¬ fault → ¬ cut → WentWell medium second second'

-- Each of the four faults ends a run only where its own count rose. A call of a disk may have failed in a run that was
-- cut off.
pub record FaultCauses {F K L D : Type 0} (m : Meanings F K L D) (old new : Outside F K L D)
    (by_read by_write by_link by_disk cut : Type 0) : Type 0 where
  pub files : CountsFault (m.shelf.faults old.files) (m.shelf.faults new.files) by_read by_write
  pub sink : CountsFault (m.outlet.faults old.out) (m.outlet.faults new.out) by_write by_write
  pub link : Cause (m.traffic.faults old.link) (m.traffic.faults new.link) by_link
  pub disks : CountsDisks m.medium old.disk old.second new.disk new.second by_disk cut

-- The faults by which a step ends the run have causes, where this cuts it off.
abbrev pub HasCausesBut : {F K L D A : Type 0} → Meanings F K L D → Type 0 → Outside F K L D → Result A Output
    → Outside F K L D → Type 0
HasCausesBut m cut old result new =
    FaultCauses m old new (EndsBy ReadFault result) (EndsBy WriteFault result) (EndsBy LinkFault result)
    (EndsBy DiskFault result) cut

-- A write that failed cuts it off.
abbrev pub HasCauses : {F K L D A : Type 0} → Meanings F K L D → Outside F K L D → Result A Output → Outside F K L D
    → Type 0
HasCauses m old result new = HasCausesBut m (EndsBy WriteFault result) old result new
