-- What is written to a sink, by the relation over calls that the sink tells.
use Rattle.std.specs.Prelude.{ℕ, ◌≡◌, ◌≢◌, List, ◌++◌}
use Rattle.causes.specs.Lists.{IsFrontOf}
use Rattle.causes.specs.Told.{WhereTold}
use Rattle.disk_model.specs.Medium.{Medium}
use Rattle.station_base.specs.declared.row.Row.{Row}
use Rattle.station_io.specs.declared.sink.Put.{Put}
use Rattle.station_io.specs.declared.sink.Put.TheVariants.{Done, Failed}
use Rattle.station_io.specs.Sink.{Outlet}
use Rattle.weather_book.specs.declared.book.Book.{Book}
use Rattle.weather_book.specs.Stands.{StandsToReadOn}
use Rattle.weather_reports.specs.declared.end.ReportEnd.{ReportEnd}
use Rattle.weather_reports.specs.declared.end.ReportEnd.TheVariants.{WriteFault}

-- Some bytes were written. This holds of the rows and of these bytes where the disk tells its bytes and the book can be
-- read there.
abbrev pub Wrote : {K D : Type 0} → Outlet K → Medium D → Book → D → (List Row → List ℕ → Type 0) → K → K → Type 0
Wrote outlet medium book disk P old new =
    (written : List ℕ) × outlet.wrote old written new
    × ((rows : List Row) → StandsToReadOn medium book disk rows → WhereTold (medium.seen disk) (λ _. P rows written))

-- of a text this was written and the rest waits, or a prefix of it was written
abbrev pub IsPrinted : Put → List ℕ → List ℕ → List ℕ → Type 0
IsPrinted Done text waits written = written ++ waits ≡ text
IsPrinted Failed text waits written = IsFrontOf written text

-- the text was printed to the sink, by the answer
abbrev pub Prints : {K : Type 0} → Outlet K → Put → List ℕ → List ℕ → K → K → Type 0
Prints outlet answer text waits old new =
    (written : List ℕ) × outlet.wrote old written new × IsPrinted answer text waits written

-- All that waited was written, or a prefix of it where a write failed.
abbrev pub Flushes : {K : Type 0} → Outlet K → ReportEnd → List ℕ → K → K → Type 0
Flushes outlet end waits old new =
    (written : List ℕ) × outlet.wrote old written new × IsFrontOf written waits × (end ≢ WriteFault → written ≡ waits)
