-- How an import ends, by how its parts do.
use Rattle.std.specs.Prelude.{Bool, true, false}
use Rattle.batch_adding.specs.declared.opening.NotOpened.{NotOpened}
use Rattle.batch_adding.specs.declared.opening.NotOpened.TheVariants as to_open
use Rattle.archive_import.specs.declared.end.ImportEnd.{ImportEnd}
use Rattle.archive_import.specs.declared.end.ImportEnd.TheVariants.{NotArchive, OldVersion, Damaged, Fault, OutOfMemory}

-- how an import ends if the archive was not opened
abbrev pub import_not_opened : NotOpened → ImportEnd
import_not_opened (to_open.NotArchive bytes) = NotArchive bytes
import_not_opened to_open.OldVersion = OldVersion
import_not_opened (to_open.Damaged place) = Damaged place
import_not_opened to_open.Fault = Fault
import_not_opened to_open.OutOfMemory = OutOfMemory

-- a call of the disk failed
abbrev pub is_import_fault : ImportEnd → Bool
is_import_fault Fault = true
is_import_fault other = false
