-- A report that was made over a book: what was written of it, and by which calls.
use Rattle.std.specs.Prelude.{ℕ, ◌≡◌, ◌≢◌, List}
use Rattle.causes.specs.Cause.{Cause}
use Rattle.causes.specs.Told.{WhereTold}
use Rattle.disk_model.specs.Disk.{Faults, Stays}
use Rattle.disk_model.specs.Medium.{Medium}
use Rattle.station_base.specs.declared.row.Row.{Row}
use Rattle.station_io.specs.Sink.{Outlet}
use Rattle.weather_book.specs.Book.{BookStandsFor}
use Rattle.weather_book.specs.Stands.{StandsToReadOn}
use Rattle.weather_book.specs.declared.book.Book.{Book}
use Rattle.weather_reports.specs.Reported.{IsReport, ReadsOver, Reports}
use Rattle.weather_reports.specs.Wrote.{Wrote}
use Rattle.weather_reports.specs.declared.end.ReportEnd.{ReportEnd}
use Rattle.weather_reports.specs.declared.end.ReportEnd.TheVariants.{DiskFault, WriteFault}

-- By reads alone bytes of this property were written of the rows of a book. The reads lie within the slots of the rows,
-- and nothing on the disk changed. A disk fault is answered only where the disk's faults rose, a write fault only where
-- the sink's did, and with no write fault the sink counted none.
pub record WritesByReads {K D : Type 0} (outlet : Outlet K) (medium : Medium D) (book : Book)
    (P : List Row → List ℕ → Type 0) (end : ReportEnd) (disk disk' : D) (out out' : K) : Type 0 where
  pub wrote : Wrote outlet medium book disk P out out'
  pub stays : Stays medium disk disk'
  pub went : (rows : List Row) → BookStandsFor book rows → ReadsOver medium rows end disk disk'
  pub disk_fault : Faults medium disk disk' (end ≡ DiskFault)
  pub write_fault : Cause (outlet.faults out) (outlet.faults out') (end ≡ WriteFault)
  pub sink_still : end ≢ WriteFault → outlet.faults out' ≡ outlet.faults out

-- The lines that the report has of the rows of a book were written by reads alone, and it ended so. Where the disk
-- tells its bytes and the book can be read there, the sink took of these lines what the end says.
pub record MakesReport {K D : Type 0} (outlet : Outlet K) (medium : Medium D) (book : Book)
    (report : List Row → List (List ℕ)) (end : ReportEnd) (disk disk' : D) (out out' : K) : Type 0 where
  pub lines : (rows : List Row) → StandsToReadOn medium book disk rows
      → WhereTold (medium.seen disk) (λ _. Reports (outlet.taken out) (outlet.taken out') (report rows) end)
  pub by_reads : WritesByReads outlet medium book (λ rows. IsReport (report rows) end) end disk disk' out out'
