-- What a run writes, and how it ends.
use Rattle.std.specs.Prelude.{ℕ, ◌≡◌, ◌⊎◌, List, [], ◌++◌, codes}
use Rattle.std.specs.declared.option.Option.{Option}
use Rattle.std.specs.Io.KnownBytes.{Appends}
use Rattle.causes.specs.Written.{WritesPart}
use Rattle.station_io.specs.Sink.{Outlet}
use Rattle.run_output.specs.declared.status.Status.{Status}
use Rattle.run_output.specs.declared.status.Status.TheVariants as ends

-- what is written last, and the status that the run ends with
pub record Output : Type 0 where
  pub text : List ℕ
  pub status : Status

-- the text first, and then the rest
abbrev pub led_by : List ℕ → Output → Output
led_by text rest = record { text = text ++ rest.text; status = rest.status }

-- nothing is written for want of memory
abbrev pub no_memory : Output
no_memory = record { text = []; status = ends.OutOfMemory }

-- the line of a link that failed
abbrev pub link_fault : Output
link_fault = record { text = codes "link fault\n"; status = ends.LinkFault }

-- the line of a disk that failed
abbrev pub disk_fault : Output
disk_fault = record { text = codes "disk fault\n"; status = ends.DiskFault }

-- the line of a file that could not be read, and of one that is too long
abbrev pub read_fault : Output
read_fault = record { text = codes "read fault\n"; status = ends.ReadFault }

-- the line of a file that is too long
abbrev pub too_long : Output
too_long = record { text = codes "file too long\n"; status = ends.TooLong }

-- nothing more is written after a write that failed
abbrev pub write_fault : Output
write_fault = record { text = []; status = ends.WriteFault }

-- A run wrote it all and ends so, or a write failed after a prefix of it.
abbrev pub RunFinishes : Option (List ℕ) → Option (List ℕ) → Output → Status → Type 0
RunFinishes old new output status =
    ((status ≡ output.status) × Appends old new output.text)
    ⊎ ((status ≡ ends.WriteFault) × WritesPart old new output.text)

-- the number that the program ends with
abbrev pub code : Status → ℕ
code ends.Done = 0
code ends.Usage = 1
code ends.BadSettings = 2
code ends.BadSchedule = 3
code ends.Trouble = 4
code ends.Unseen = 5
code ends.LinkFault = 6
code ends.DiskFault = 7
code ends.ReadFault = 8
code ends.WriteFault = 9
code ends.ArchiveFull = 10
code ends.BadArchive = 11
code ends.OutOfMemory = 12
code ends.Flood = 13
code ends.BadPage = 14
code ends.TooLong = 15
code ends.OldArchive = 16
code ends.NotPrefix = 17
code ends.BadEntry = 18
code ends.BadRows = 19

-- The run ended with this number, and the sink took the output that it stands for or a prefix of it.
pub record RunEndsWith {S : Type 0} (outlet : Outlet S) (output : Output) (old new : S) (result : ℕ) : Type 0 where
  pub status : Status
  pub coded : code status ≡ result
  pub ends : RunFinishes (outlet.taken old) (outlet.taken new) output status
