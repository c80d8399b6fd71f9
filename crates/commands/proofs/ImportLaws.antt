-- An import: each fault has a cause, and a text of rows is imported into an archive that may grow, unless it is full, or a fault or want
-- of memory keeps the command from that.
use Rattle.std.proofs.Common.{◌≡◌, ◌≢◌, ℕ, false, true, List, [], ◌∷◌, Ok, Err, Some, None, refl, sym, ap, subst, ◌∙◌, inl, inr}
use Rattle.std.specs.Global.{Vec}
use Rattle.std.specs.Option.{IsSomeAnd}
use Rattle.std.specs.Prelude.{IsOk}
use Rattle.std.specs.declared.option.Option.{Option}
use Rattle.std.specs.declared.result.Result.{Result}
use Rattle.archive_import.specs.Ends.{is_import_fault}
use Rattle.archive_import.specs.Importing.{ImportAnswers}
use Rattle.archive_import.specs.Texts.{text_rows}
use Rattle.archive_import.specs.declared.end.ImportEnd.{ImportEnd}
use Rattle.archive_import.specs.declared.end.ImportEnd.TheVariants as imported
use Rattle.batch_adding.specs.Opening.{CanBeAddedTo}
use Rattle.causes.specs.Told.{WhereTold}
use Rattle.disk_model.specs.Medium.{Medium}
use Rattle.packed_rows.specs.Rows.{damaged, holds, not_archive}
use Rattle.row_text.specs.RowsOfText.{row_count_of, rows_of_text}
use Rattle.row_text.specs.declared.bad_line.BadLine.{BadLine}
use Rattle.station_base.specs.declared.row.Row.{Row}
use Rattle.run_output.specs.Ended.{IsOneOf, Lines, output_of}
use Rattle.run_output.specs.Output.{Output}
use Rattle.run_output.specs.Outside.{Meanings}
use Rattle.run_output.specs.declared.outside.Outside.{Outside}
use Rattle.run_output.specs.declared.status.Status.{Status}
use Rattle.run_output.specs.declared.status.Status.TheVariants as ends
use Rattle.run_output.proofs.Behind.{then_has}
use Rattle.run_output.proofs.CallCauses.{DiskCauses, IsQuiet, attaches_causes, by_disk_alone, quiet_causes, reads_causes}
use Rattle.run_output.proofs.Causes.{Causes, then_causes}
use Rattle.run_output.proofs.GoodFiles.{IsHindrance, good-reads}
use Rattle.run_output.proofs.Statuses.{attach_ends, ends_so, has_status}
use Rattle.commands.specs.ImportRun.{IsTextOfRows, import_output, imports, imports_on, judges_rows, rows_judged}
use Rattle.commands.specs.StayRun.{MayGrow}

-- a text is judged by none of the four faults
judged_quiet : (judged : Result ℕ BadLine) (result : Result ℕ Output) → result ≡ rows_judged judged → IsQuiet result
judged_quiet (Ok n) result is = rw is (record { no_read = λ no. no; no_write = λ no. no; no_link = λ no. no; no_disk = λ no. no })
judged_quiet (Err bad) result is = rw is (record { no_read = λ is. cc; no_write = λ is. cc; no_link = λ is. cc; no_disk = λ is. cc })

judges_causes : {F K L D : Type 0} (m : Meanings F K L D) (text : List ℕ) → Causes m (judges_rows {W = Outside F K L D} text)
judges_causes m text old new result did = quiet_causes m old new result (judged_quiet (row_count_of (rows_of_text text)) result did.0) did.1

-- the status is that of a disk fault where a call of the disk failed, and none of files, sink or link
of_disk : (end : ImportEnd) → (import_output end).status ≡ ends.DiskFault → end ≡ imported.Fault
of_disk imported.Fault is = refl
of_disk other is = absurd cc

no_disk : (end : ImportEnd) → (import_output end).status ≢ ends.DiskFault → is_import_fault end ≡ false
no_disk imported.Fault other = absurd (other refl)
no_disk end other = refl

record IsOfDisk (end : ImportEnd) : Type 0 where
  read : (import_output end).status ≢ ends.ReadFault
  write : (import_output end).status ≢ ends.WriteFault
  link : (import_output end).status ≢ ends.LinkFault

no_other : (end : ImportEnd) → IsOfDisk end
no_other imported.Fault = record { read = λ is. cc; write = λ is. cc; link = λ is. cc }
no_other other = record { read = λ is. cc; write = λ is. cc; link = λ is. cc }

disk_causes : {D : Type 0} (medium : Medium D) (text : List ℕ) (old new : D) (result : Result Lines Output) → imports medium text old result new
    → DiskCauses medium old result new
disk_causes medium text old new result did =
    let other : IsOfDisk did.end = no_other did.end in
    let went = did.did.went in
    record {
      fault = record {
        never_falls = did.did.fault.never_falls;
        rose = λ by. did.did.fault.rose (of_disk did.end (has_status _ result _ did.given by));
      };
      well = λ fault. record {
        calls = went.calls;
        by = went.by;
        well = went.fails ∙ no_disk did.end (λ is. fault (ends_so _ result _ did.given (λ e. cc) is));
      };
      others = (
        λ by. other.read (has_status _ result _ did.given by),
        λ by. other.write (has_status _ result _ did.given by),
        λ by. other.link (has_status _ result _ did.given by),
      );
    }

-- an import has causes
pub imports_on_causes : {F K L D : Type 0} (m : Meanings F K L D) (rows archive : List ℕ) → Causes m (imports_on m rows archive)
imports_on_causes m rows archive =
    then_causes m _ _ (reads_causes m rows) (λ (file : Vec ℕ).
    then_causes m _ _ (judges_causes m file.items) (λ _.
    then_causes m _ _ (attaches_causes m archive true) (λ _.
    by_disk_alone m (imports m.medium file.items) (disk_causes m.medium file.items))))

-- done, or the archive is full; or else a fault of the outside or want of memory kept the command from that
abbrev pub import_ends : List Status
import_ends = ends.Done ∷ ends.DiskFault ∷ ends.ReadFault ∷ ends.WriteFault ∷ ends.ArchiveFull ∷ ends.OutOfMemory ∷ []

abbrev pub IsImportEnd : Status → Type 0
IsImportEnd = IsOneOf import_ends

hindered : (status : Status) → IsHindrance status → IsImportEnd status
hindered status (inl read) = inr (inr (inl read))
hindered status (inr none) = inr (inr (inr (inr (inr none))))

-- an archive that may grow is refused by no import
not_refused : (file : List ℕ) (mine rows : List Row) (end : ImportEnd) → CanBeAddedTo file mine → ImportAnswers end rows file → IsImportEnd (import_output end).status
not_refused file mine rows (imported.Done done) can is = inl refl
not_refused file mine rows imported.Full can is = inr (inr (inr (inr (inl refl))))
not_refused file mine rows (imported.NotArchive bytes) can is = absurd (let no : holds mine ≡ not_archive = sym can.holds_them ∙ is.0 in cc)
not_refused file mine rows imported.OldVersion can is = absurd (let no : false ≡ true = sym can.current ∙ is in cc)
not_refused file mine rows (imported.Damaged place) can is = absurd (let no : holds mine ≡ damaged place = sym can.holds_them ∙ is.0 in cc)
not_refused file mine rows imported.Fault can is = inr (inl refl)
not_refused file mine rows imported.OutOfMemory can is = inr (inr (inr (inr (inr refl))))

told_import : (told : Option (List ℕ)) (mine rows : List Row) (end : ImportEnd) → IsSomeAnd told (λ file. CanBeAddedTo file mine)
    → WhereTold told (ImportAnswers end rows) → IsImportEnd (import_output end).status
told_import None mine rows end can is = absurd can
told_import (Some file) mine rows end can is = not_refused file mine rows end can (is file refl)

-- a text of rows is not refused
taken : (judged : Result (List Row) BadLine) (output : Output) → IsOk judged
    → ◌≡◌ {A = Result ℕ Output} (Err output) (rows_judged (row_count_of judged)) → IsImportEnd output.status
taken (Ok rows) output good is = cc
taken (Err bad) output good is = absurd (let no : false ≡ true = good in cc)

-- a text of rows is imported into an archive that may grow, unless that is full, or a fault or want of memory keeps the command from it
pub imports_on_complete : {F K L D : Type 0} (m : Meanings F K L D) (rows archive : List ℕ) (old new : Outside F K L D) (ended : Result Lines Output)
    → IsSomeAnd (m.shelf.held old.files rows) IsTextOfRows → MayGrow m.medium old.disk → imports_on m rows archive old ended new
    → IsImportEnd (output_of ended).status
imports_on_complete {F} {K} {L} {D} m rows archive old new ended good grows did =
    let Q : Result Lines Output → Type 0 = λ result. IsImportEnd (output_of result).status in
    then_has Q _ _ old new ended
    (λ output w one. hindered output.status
    (good-reads m.shelf IsTextOfRows rows old.files w.files (Err output) (λ file is. is.0) good one.0))
    (λ file read one. then_has Q _ _ read new ended
    (λ output w two. taken (rows_of_text file.items) output
    (good-reads m.shelf IsTextOfRows rows old.files read.files (Ok file) (λ text is. is.0) good one.0).1 two.0)
    (λ count judged two. then_has Q _ _ judged new ended
    (λ output w three. inr (inl (attach_ends m.medium archive true judged.disk w.disk output three.0)))
    (λ _ attached three four. subst (λ (output : Output). IsImportEnd output.status) (sym four.0.given)
    (told_import (m.medium.seen attached.disk) grows.0 (text_rows file.items) four.0.end
    (subst (λ (told : Option (List ℕ)). IsSomeAnd told (λ text. CanBeAddedTo text grows.0))
    (sym (three.0.did.stays.reads ∙ ap (λ (w : Outside F K L D). m.medium.seen w.disk) (two.1 ∙ one.1))) grows.1)
    four.0.did.answers))))
    did
