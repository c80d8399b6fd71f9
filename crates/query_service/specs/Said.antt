-- What an answer writes to a sink.
use Rattle.std.specs.Prelude.{ℕ, ◌≡◌, ◌≢◌, List}
use Rattle.causes.specs.Cause.{Cause}
use Rattle.causes.specs.Lists.{IsFrontOf}
use Rattle.disk_model.specs.Medium.{Medium}
use Rattle.station_base.specs.declared.row.Row.{Row}
use Rattle.station_io.specs.Sink.{Outlet}
use Rattle.weather_book.specs.declared.book.Book.{Book}
use Rattle.weather_reports.specs.Made.{WritesByReads}
use Rattle.weather_reports.specs.declared.end.ReportEnd.{ReportEnd}
use Rattle.weather_reports.specs.declared.end.ReportEnd.TheVariants.{Done, DiskFault, WriteFault}

-- all of an answer, or a prefix of it if it broke off
abbrev pub IsReply : List ℕ → ReportEnd → List ℕ → Type 0
IsReply answer Done written = written ≡ answer
IsReply answer DiskFault written = IsFrontOf written answer
IsReply answer WriteFault written = IsFrontOf written answer

-- These bytes were written, with no call of a disk.
pub record QuerySays {K : Type 0} (outlet : Outlet K) (bytes : List ℕ) (end : ReportEnd) (old new : K) : Type 0 where
  pub wrote : (written : List ℕ) × outlet.wrote old written new × IsReply bytes end written
  pub no_read : end ≢ DiskFault
  pub cause : Cause (outlet.faults old) (outlet.faults new) (end ≡ WriteFault)
  pub still : end ≢ WriteFault → outlet.faults new ≡ outlet.faults old

-- the answer that the rows give was written, by reads alone
abbrev pub BookReplies : {K D : Type 0} → Outlet K → Medium D → Book → (List Row → List ℕ) → ReportEnd → D → D → K → K
    → Type 0
BookReplies outlet medium book answer end = WritesByReads outlet medium book (λ rows. IsReply (answer rows) end) end
