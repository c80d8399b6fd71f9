-- The calls of a copy on each of its disks.
use Rattle.std.specs.Prelude.{◌≡◌, Bool, true, false, List, [], Ok, Err}
use Rattle.std.specs.declared.result.Result.{Result}
use Rattle.disk_model.specs.Medium.{Medium}
use Rattle.disk_model.specs.Calls.{DiskCall}
use Rattle.gated_log.specs.Calls.{any_failed, changes, reads_fit}
use Rattle.weather_book.specs.declared.book.Book.{Book}
use Rattle.archive_copy.specs.declared.batch.BatchRead.{BatchRead}
use Rattle.archive_copy.specs.declared.batch.BatchRead.TheVariants as read
use Rattle.archive_copy.specs.declared.comparing.Compared.{Compared}
use Rattle.archive_copy.specs.declared.comparing.Compared.TheVariants as compared
use Rattle.archive_copy.specs.declared.end.CopyEnd.{CopyEnd}
use Rattle.archive_copy.specs.declared.end.CopyEnd.TheVariants.{FromFault, ToFault}

-- a call of the disk to copy from failed
abbrev pub is_from_fault : CopyEnd → Bool
is_from_fault FromFault = true
is_from_fault other = false

-- a call of the disk to copy to failed
abbrev pub is_to_fault : CopyEnd → Bool
is_to_fault ToFault = true
is_to_fault other = false

-- the same of a comparison
abbrev pub from_failed : Compared → Bool
from_failed compared.FromFault = true
from_failed other = false

abbrev pub to_failed : Compared → Bool
to_failed compared.ToFault = true
to_failed other = false

-- a call failed as a batch was read
abbrev pub batch_read_failed : BatchRead → Bool
batch_read_failed read.Fault = true
batch_read_failed other = false

-- a call failed as an archive was opened
abbrev pub from_opened_failed : Result Book CopyEnd → Bool
from_opened_failed (Ok book) = false
from_opened_failed (Err end) = is_from_fault end

-- Calls that change nothing led from the one disk to the other. Each read ends within the length that was measured
-- last, and whether one of the calls failed is told.
pub record OnlyReads {D : Type 0} (medium : Medium D) (failed : Bool) (old new : D) : Type 0 where
  pub calls : List DiskCall
  pub by : medium.went old calls new
  pub no_change : changes calls ≡ []
  pub fits : reads_fit 0 calls
  pub fails : any_failed calls ≡ failed
