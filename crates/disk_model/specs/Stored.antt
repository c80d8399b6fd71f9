-- Which answer a disk gave where what was to be stored ended so.
use Rattle.causes.specs.declared.stored.Stored.{Stored}
use Rattle.causes.specs.declared.stored.Stored.TheVariants as stored
use Rattle.disk_model.specs.declared.disk.Disked.{Disked}
use Rattle.disk_model.specs.declared.disk.Disked.TheVariants.{Done, Failed}

-- how the disk's last change was answered
abbrev pub disk_answer : Stored → Disked
disk_answer stored.Done = Done
disk_answer other = Failed
