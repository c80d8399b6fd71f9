-- What calls that answer requests do to a link and to a disk.
use Rattle.std.specs.Prelude.{◌≡◌, ◌+◌, ◌*◌, ⊤, Bool, true, false, List}
use Rattle.causes.specs.Cause.{Rose}
use Rattle.disk_model.specs.Disk.{Faults, Stays}
use Rattle.disk_model.specs.Medium.{Medium}
use Rattle.gated_log.specs.Calls.{Looked}
use Rattle.serial_link.specs.Link.{AreStill, Talks}
use Rattle.serial_link.specs.Traffic.{Traffic}
use Rattle.serial_link.specs.declared.talk.TalkItem.{TalkItem}
use Rattle.station_base.specs.declared.row.Row.{Row}
use Rattle.gated_log.specs.Layout.{slot_size}
use Rattle.weather_book.specs.Book.{BookStandsFor}
use Rattle.packed_rows.specs.Rows.{slot_total}
use Rattle.weather_book.specs.declared.book.Book.{Book}
use Rattle.query_service.specs.declared.service.QueryEnd.{QueryEnd}
use Rattle.query_service.specs.declared.service.QueryEnd.TheVariants.{Done, LinkFault, DiskFault, OutOfMemory}

-- whether a read failed, by the end
abbrev pub FailsBy : QueryEnd → Bool → Type 0
FailsBy Done failed = failed ≡ false
FailsBy DiskFault failed = failed ≡ true
FailsBy LinkFault failed = Unit {0}
FailsBy OutOfMemory failed = Unit {0}

-- Reads alone were made, each within the slots of the rows. One failed at a disk fault, and none where all is answered.
pub record ReadsFor {D : Type 0} (medium : Medium D) (rows : List Row) (end : QueryEnd) (old new : D) : Type 0 where
  pub failed : Bool
  pub by_end : FailsBy end failed
  pub looked : Looked medium (slot_size * (slot_total rows + 1)) failed old new

-- Each end has its cause: the count of the link's faults, of its shortages or of the disk's faults rose only with it.
-- The talk is as this has it, and nothing on the disk changed.
pub record ServesQueries {L D : Type 0} (traffic : Traffic L) (medium : Medium D) (book : Book) (end : QueryEnd)
    (Part : List TalkItem → Type 0) (link link' : L) (disk disk' : D) : Type 0 where
  pub talk : Talks traffic link Part (end ≡ LinkFault) (end ≡ OutOfMemory) link'
  pub still : AreStill traffic link (end ≡ LinkFault) ⊤ (end ≡ OutOfMemory) link'
  pub stays : Stays medium disk disk'
  pub went : (rows : List Row) → BookStandsFor book rows → ReadsFor medium rows end disk disk'
  pub disk_fault : Faults medium disk disk' (end ≡ DiskFault)

-- where no count rose all turns were taken
abbrev pub IsDoneWithoutFault : {L D : Type 0} → Traffic L → Medium D → QueryEnd → L → L → D → D → Type 0
IsDoneWithoutFault traffic medium end link link' disk disk' =
    (Rose (traffic.faults link) (traffic.faults link') → ⊥)
    → (Rose (traffic.shortages link) (traffic.shortages link') → ⊥)
    → (Rose (medium.faults disk) (medium.faults disk') → ⊥) → end ≡ Done
