-- The steps that recover the archive of a file, to be read or written.
use Rattle.std.specs.Prelude.{ℕ, ◌≡◌, ◌≢◌, ◌-◌, false, List, ◌++◌, Ok, Err, IfOk, codes, decimal}
use Rattle.std.specs.declared.result.Result.{Result}
use Rattle.causes.specs.Told.{WhereTold}
use Rattle.disk_model.specs.Disk.{BeginsChanges, Faults, LeavesOnly, Stays}
use Rattle.disk_model.specs.Medium.{Medium}
use Rattle.gated_log.specs.Calls.{RecoveryCalls}
use Rattle.gated_log.specs.Start.{OnRead, OnWrite}
use Rattle.gated_log.specs.declared.start.Purpose.{Purpose}
use Rattle.gated_log.specs.declared.start.Purpose.TheVariants.{Read}
use Rattle.station_base.specs.Limits.{most_rows}
use Rattle.station_base.specs.declared.row.Row.{Row}
use Rattle.weather_book.specs.Book.{book_is_stale, most_rows_of}
use Rattle.weather_book.specs.Stands.{HasRows, NowHasRows, ReadsRows, StandsOn, StandsToReadOn}
use Rattle.weather_book.specs.Start.{FindsBook, is_book_fault, book_slots_found}
use Rattle.weather_book.specs.declared.book.Book.{Book}
use Rattle.weather_book.specs.declared.start.BookStart.{BookStart}
use Rattle.weather_book.specs.declared.start.BookStart.TheVariants as found
use Rattle.run_output.specs.Calls.{attaches}
use Rattle.run_output.specs.MemoryText.{bytes_line}
use Rattle.run_output.specs.Output.{Output, disk_fault, no_memory}
use Rattle.run_output.specs.Outside.{Meanings, over_disk}
use Rattle.run_output.specs.Steps.{CommandStep, then}
use Rattle.run_output.specs.declared.outside.Outside.{Outside}
use Rattle.run_output.specs.declared.status.Status.TheVariants as ends

-- `not an archive` and the first eight bytes of the file, two hexadecimal digits each
abbrev pub not_archive_line : List ℕ → List ℕ
not_archive_line bytes = codes "not an archive " ++ bytes_line bytes

-- `damaged at` and a place of the file
abbrev pub damaged_line : ℕ → List ℕ
damaged_line place = codes "damaged at " ++ decimal place ++ codes "\n"

-- a file that is refused
abbrev pub bad_archive : List ℕ → Output
bad_archive line = record { text = line; status = ends.BadArchive }

-- an archive of the first version, which is not written to
abbrev pub old_archive : Output
old_archive = record { text = codes "old archive\n"; status = ends.OldArchive }

-- what is given by what was found: the book, or the line that says why there is none
abbrev pub book_found : BookStart → Result Book Output
book_found (found.Book book) = Ok book
book_found (found.NotArchive bytes) = Err (bad_archive (not_archive_line bytes))
book_found found.OldVersion = Err old_archive
book_found (found.Damaged place) = Err (bad_archive (damaged_line place))
book_found found.DiskFault = Err disk_fault
book_found found.OutOfMemory = Err no_memory

-- The archive was recovered once for this purpose: to be read, whatever its version, by no change; or to be written,
-- where each image that a crash leaves meanwhile has the rows that each had before.
pub record recovers {D : Type 0} (medium : Medium D) (most : ℕ) (purpose : Purpose) (old : D)
    (result : Result Book Output) (new : D) : Type 0 where
  pub start : BookStart
  pub given : result ≡ book_found start
  pub finds : WhereTold (medium.seen old) (FindsBook purpose start)
  pub calls : RecoveryCalls medium old new (medium.moment new - medium.moment old) (book_slots_found start)
      (is_book_fault start)
  pub cause : Faults medium old new (start ≡ found.DiskFault)
  pub begun : BeginsChanges medium 3 old new
  pub fresh : IfOk result (λ book. (book_is_stale book ≡ false) × (most_rows_of book ≡ most))
  pub any_version : OnRead purpose (start ≢ found.OldVersion)
  pub stays : OnRead purpose (Stays medium old new)
  pub to_read : OnRead purpose (IfOk result (λ book. (rows : List Row)
      × StandsToReadOn medium book new rows × ReadsRows medium old rows))
  pub images : OnWrite purpose ((rows : List Row) → NowHasRows medium old rows
      → LeavesOnly medium (HasRows rows) old new)
  pub to_write : OnWrite purpose (IfOk result (λ book. (rows : List Row)
      × StandsOn medium book new rows × ReadsRows medium old rows))

-- The file of this name is attached, without making it, and its archive is recovered to be read.
abbrev pub reads_archive : {F K L D : Type 0} → Meanings F K L D → List ℕ → CommandStep (Outside F K L D) Book
reads_archive m archive =
    then (over_disk (attaches m.medium archive false)) (λ _. over_disk (recovers m.medium most_rows Read))
