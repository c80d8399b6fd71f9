-- Why a recovery ended a command, and what it found.
use Rattle.std.proofs.Common.{◌≡◌, ℕ, List, Ok, IfOk, false, refl, sym, subst, ◌∙◌}
use Rattle.std.specs.declared.result.Result.{Result}
use Rattle.disk_model.specs.Disk.{Faults}
use Rattle.disk_model.specs.Medium.{Medium}
use Rattle.gated_log.specs.Calls.{RecoveryCalls}
use Rattle.gated_log.specs.declared.start.Purpose.{Purpose}
use Rattle.gated_log.specs.declared.start.Purpose.TheVariants.{Read}
use Rattle.station_base.specs.Limits.{most_rows}
use Rattle.station_base.specs.declared.row.Row.{Row}
use Rattle.weather_book.specs.Stands.{ReadsRows, StandsToReadOn}
use Rattle.weather_book.specs.Start.{is_book_fault, book_slots_found}
use Rattle.weather_book.specs.declared.book.Book.{Book}
use Rattle.weather_book.specs.declared.start.BookStart.{BookStart}
use Rattle.weather_book.specs.declared.start.BookStart.TheVariants as found
use Rattle.run_output.specs.Output.{Output}
use Rattle.run_output.specs.Outside.{Meanings, over_disk}
use Rattle.run_output.specs.declared.outside.Outside.{Outside}
use Rattle.run_output.proofs.Behind.{then_has}
use Rattle.run_output.proofs.CallCauses.{DiskCauses, attaches_causes, by_disk_alone}
use Rattle.run_output.proofs.Causes.{Causes, then_causes}
use Rattle.commands.specs.Recovery.{book_found, reads_archive, recovers}

-- what was found tells why
found_causes : {D : Type 0} (medium : Medium D) (old new : D) (changes : ℕ) (start : BookStart) → Faults medium old new (start ≡ found.DiskFault)
    → RecoveryCalls medium old new changes (book_slots_found start) (is_book_fault start) → DiskCauses medium old (book_found start) new
found_causes medium old new changes found.DiskFault fault went = record {
  fault = record { never_falls = fault.never_falls; rose = λ is. fault.rose refl };
  well = λ no. absurd (no refl);
  others = (λ is. cc, λ is. cc, λ is. cc);
}
found_causes medium old new changes (found.Book book) fault went = record {
  fault = record { never_falls = fault.never_falls; rose = λ no. absurd no };
  well = λ no. record { calls = went.calls; by = went.by; well = went.fails };
  others = (λ no. no, λ no. no, λ no. no);
}
found_causes medium old new changes other fault went = record {
  fault = record { never_falls = fault.never_falls; rose = λ is. absurd cc };
  well = λ no. record { calls = went.calls; by = went.by; well = went.fails };
  others = (λ is. cc, λ is. cc, λ is. cc);
}

-- a recovery has causes
pub recovers_causes : {F K L D : Type 0} (m : Meanings F K L D) (most : ℕ) (purpose : Purpose) → Causes m (over_disk (recovers m.medium most purpose))
recovers_causes m most purpose = by_disk_alone m (recovers m.medium most purpose) (λ old new result did.
    subst (λ (r : Result Book Output). DiskCauses m.medium old r new) (sym did.given)
    (found_causes m.medium old new _ did.start did.cause did.calls))

-- so has one behind the attach of its file
pub reads_archive_causes : {F K L D : Type 0} (m : Meanings F K L D) (archive : List ℕ) → Causes m (reads_archive m archive)
reads_archive_causes m archive = then_causes m _ _ (attaches_causes m archive false) (λ _. recovers_causes m most_rows Read)

-- The book that was recovered stands for rows that can be read there, and the disk reads as these.
pub archive_read : {F K L D : Type 0} (m : Meanings F K L D) (archive : List ℕ) (old new : Outside F K L D) (book : Book)
    → reads_archive m archive old (Ok book) new
    → (rows : List Row) × StandsToReadOn m.medium book new.disk rows × ReadsRows m.medium new.disk rows
archive_read {F} {K} {L} {D} m archive old new book did =
    let Q : Result Book Output → Type 0 = λ result. IfOk result (λ found. (rows : List Row)
    × StandsToReadOn m.medium found new.disk rows × ReadsRows m.medium new.disk rows) in
    then_has Q _ _ old new (Ok book) (λ output mid one. tt)
    (λ _ mid one two. let has = two.0.to_read in (has.0, has.1, λ file told. has.2 file (sym two.0.stays.reads ∙ told))) did
