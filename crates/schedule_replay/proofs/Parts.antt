-- Texts that are written one behind another.
use Rattle.std.proofs.Common.{◌≡◌, ℕ, List, ◌++◌, Some, Ok, Err, refl, ap, subst, ◌∙◌}
use Rattle.std.specs.declared.result.Result.{Result}
use Rattle.disk_model.specs.Medium.{Medium}
use Rattle.station_base.specs.declared.row.Row.{Row}
use Rattle.station_io.specs.declared.sink.Put.TheVariants.{Done, Failed}
use Rattle.station_io.specs.Sink.{Emits, Outlet}
use Rattle.weather_book.specs.Stands.{StandsToReadOn}
use Rattle.weather_book.specs.declared.book.Book.{Book}
use Rattle.weather_reports.specs.declared.end.ReportEnd.TheVariants as ReportEnd
use Rattle.weather_reports.specs.Made.{MakesReport}
use Rattle.weather_reports.specs.Reported.{text_of_lines}
use Rattle.schedule_replay.specs.declared.cut.Cut.{Cut}
use Rattle.schedule_replay.specs.declared.cut.Cut.TheVariants.{WriteFault, OutOfMemory}
use Rattle.schedule_replay.specs.TextTelling.{first_cut, second_cut, written_join}
use Rattle.schedule_replay.specs.Writing.{IsFrontWritten, IsWritten, WritesText}

-- the first text was written, and then the second one as was told
pub writes_second : {K : Type 0} (outlet : Outlet K) (old now new : K) (one two : List ℕ) (result : Result (Unit {0}) Cut)
    → IsWritten outlet old now one → WritesText outlet now new two result → WritesText outlet old new (one ++ two) result
writes_second outlet old now new one two (Ok done) first second = written_join outlet old now new one two first second
writes_second outlet old now new one two (Err WriteFault) first second =
    second_cut outlet old now new one two first second
writes_second outlet old now new one two (Err OutOfMemory) first second = absurd second

-- the first text was not written whole
pub writes_first : {K : Type 0} (outlet : Outlet K) (old new : K) (one two : List ℕ) (cut : Cut)
    → WritesText outlet old new one (Err cut) → WritesText outlet old new (one ++ two) (Err cut)
writes_first outlet old new one two WriteFault first = first_cut outlet old new one two first
writes_first outlet old new one two OutOfMemory first = absurd first

-- one write, by its answer
pub put_done : {K : Type 0} (outlet : Outlet K) (old new : K) (text : List ℕ) → Emits outlet old text Done new
    → IsWritten outlet old new text
put_done outlet old new text emits = record {
  appended = emits.done refl;
  wrote = subst (λ (t : List ℕ). outlet.wrote old t new) emits.call.writes emits.call.wrote;
}

pub put_failed : {K : Type 0} (outlet : Outlet K) (old new : K) (text : List ℕ) → Emits outlet old text Failed new
    → IsFrontWritten outlet old new text
put_failed outlet old new text emits = record {
  part = emits.failed refl;
  written = emits.call.written;
  front = emits.call.writes;
  wrote = emits.call.wrote;
}

-- a report of the rows of a disk, by its end
module _ {K D : Type 0} {outlet : Outlet K} {medium : Medium D} {book : Book} {report : List Row → List (List ℕ)} {disk disk' : D} {out out' : K}
    (rows : List Row) (stands : StandsToReadOn medium book disk rows) (image : List ℕ) (seen : medium.seen disk ≡ Some image) where
  pub report_done : MakesReport outlet medium book report ReportEnd.Done disk disk' out out' → IsWritten outlet out out' (text_of_lines (report rows))
  report_done made =
      let wrote = made.by_reads.wrote in
      record {
        appended = made.lines rows stands image seen;
        wrote = subst (λ (t : List ℕ). outlet.wrote out t out') (wrote.2 rows stands image seen) wrote.1;
      }

  pub report_failed : MakesReport outlet medium book report ReportEnd.WriteFault disk disk' out out' → IsFrontWritten outlet out out' (text_of_lines (report rows))
  report_failed made =
      let wrote = made.by_reads.wrote in let is = wrote.2 rows stands image seen in
      record {
        part = made.lines rows stands image seen;
        written = wrote.0;
        front = (is.left, ap (λ (l : List ℕ). l ++ is.left) is.leaves.appended ∙ is.leaves.whole);
        wrote = wrote.1;
      }
