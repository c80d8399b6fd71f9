-- A report: each fault has a cause, and over an archive only a fault or want of memory keeps it from being written.
use Rattle.std.proofs.Common.{◌≡◌, ◌≢◌, ℕ, List, [], ◌∷◌, Some, None, Ok, Err, refl, sym, ap, subst, ◌∙◌, arith, inl, inr}
use Rattle.std.specs.declared.option.Option.{Option}
use Rattle.std.specs.declared.result.Result.{Result}
use Rattle.std.specs.Option.{IsSomeAnd}
use Rattle.causes.specs.Told.{WhereTold}
use Rattle.command_words.specs.declared.wanted.Wanted.{Wanted}
use Rattle.disk_model.specs.Medium.{Medium}
use Rattle.gated_log.specs.declared.start.Purpose.TheVariants.{Read}
use Rattle.station_base.specs.declared.row.Row.{Row}
use Rattle.packed_rows.specs.Rows.{damaged, holds, not_archive}
use Rattle.weather_book.specs.Start.{FindsBook}
use Rattle.weather_book.specs.declared.book.Book.{Book}
use Rattle.weather_book.specs.declared.start.BookStart.{BookStart}
use Rattle.weather_book.specs.declared.start.BookStart.TheVariants as found
use Rattle.weather_reports.specs.Reported.{ReadsOver}
use Rattle.weather_reports.specs.declared.end.ReportEnd.{ReportEnd}
use Rattle.weather_reports.specs.declared.end.ReportEnd.TheVariants as report_end
use Rattle.run_output.specs.Causes.{HasCauses, WentWell}
use Rattle.run_output.specs.Ended.{IsOneOf, Lines, output_of}
use Rattle.run_output.specs.Output.{Output}
use Rattle.run_output.specs.Outside.{Meanings}
use Rattle.run_output.specs.declared.outside.Outside.{Outside}
use Rattle.run_output.specs.declared.status.Status.{Status}
use Rattle.run_output.specs.declared.status.Status.TheVariants as ends
use Rattle.run_output.proofs.Behind.{then_has}
use Rattle.run_output.proofs.Causes.{Causes, none_well, same_cause, same_count, then_causes}
use Rattle.run_output.proofs.Statuses.{attach_ends, ends_so, has_status}
use Rattle.commands.specs.Recovery.{book_found, reads_archive, recovers}
use Rattle.commands.specs.ReportRun.{FileHoldsRows, TellsArchive, report_given, reports, reports_on, reports_over}
use Rattle.commands.specs.declared.archive_report.ArchiveReport.{ArchiveReport}
use Rattle.commands.specs.declared.archive_report.ArchiveReport.TheVariants.{OfDays}
use Rattle.commands.proofs.RecoveryLaws.{reads_archive_causes}
use Rattle.station_base.specs.Limits.{most_rows}

-- written, unless a disk fault, a write fault or want of memory kept the command from that
abbrev pub reported : List Status
reported = ends.Done ∷ ends.DiskFault ∷ ends.WriteFault ∷ ends.OutOfMemory ∷ []

abbrev pub IsReported : Status → Type 0
IsReported = IsOneOf reported

-- the status tells how the report ended
of_disk : (end : ReportEnd) → (report_given end).status ≡ ends.DiskFault → end ≡ report_end.DiskFault
of_disk report_end.Done is = cc
of_disk report_end.DiskFault is = refl
of_disk report_end.WriteFault is = cc

of_sink : (end : ReportEnd) → (report_given end).status ≡ ends.WriteFault → end ≡ report_end.WriteFault
of_sink report_end.Done is = cc
of_sink report_end.DiskFault is = cc
of_sink report_end.WriteFault is = refl

no_other : (end : ReportEnd) → ((report_given end).status ≢ ends.ReadFault) × ((report_given end).status ≢ ends.LinkFault)
no_other report_end.Done = (λ is. cc, λ is. cc)
no_other report_end.DiskFault = (λ is. cc, λ is. cc)
no_other report_end.WriteFault = (λ is. cc, λ is. cc)

-- with no fault all reads were done
all_read : {D : Type 0} (medium : Medium D) (rows : List Row) (end : ReportEnd) (old new : D) → (report_given end).status ≢ ends.DiskFault
    → (report_given end).status ≢ ends.WriteFault → ReadsOver medium rows end old new → WentWell medium old new
all_read medium rows report_end.Done old new disk write reads = record {
  calls = reads.looked.calls;
  by = reads.looked.by;
  well = reads.looked.fails ∙ reads.by_end;
}
all_read medium rows report_end.DiskFault old new disk write reads = absurd (disk refl)
all_read medium rows report_end.WriteFault old new disk write reads = absurd (write refl)

pub reports_causes : {F K L D : Type 0} (m : Meanings F K L D) (report : ArchiveReport) (book : Book) → Causes m (reports m report book)
reports_causes {F} {K} {L} {D} m report book old new result did =
    let by = did.made.by_reads in
    subst (λ (w : Outside F K L D). HasCauses m old result w) (sym did.alone) (record {
      files = same_count (m.shelf.faults old.files) (λ read. (no_other did.end).0 (has_status _ result _ did.given read));
      sink = record {
        cause = record {
          never_falls = by.write_fault.never_falls;
          rose = λ write. by.write_fault.rose (of_sink did.end (has_status _ result _ did.given write));
        };
        still = λ no _. by.sink_still (λ is. no (ends_so _ result _ did.given (λ e. cc) (ap (λ (end : ReportEnd). (report_given end).status) is)));
      };
      link = same_cause (m.traffic.faults old.link) (λ link. (no_other did.end).1 (has_status _ result _ did.given link));
      disks = record {
        rose = λ disk. inl (by.disk_fault.rose (of_disk did.end (has_status _ result _ did.given disk)));
        disk_never_falls = by.disk_fault.never_falls;
        second_never_falls = omega arith;
        disk_well = λ disk write. all_read m.medium did.rows did.end old.disk new.disk (λ is. disk (ends_so _ result _ did.given (λ e. cc) is))
            (λ is. write (ends_so _ result _ did.given (λ e. cc) is)) (by.went did.rows did.stands.stands_for);
        second_well = λ _ _. none_well m.medium old.second;
      };
    })

-- a report over an archive has causes
pub reports_over_causes : {F K L D : Type 0} (m : Meanings F K L D) (archive : List ℕ) (report : ArchiveReport) → Causes m (reports_over m archive report)
reports_over_causes m archive report = then_causes m _ _ (reads_archive_causes m archive) (λ book. reports_causes m report book)

-- so has one of some days
pub reports_on_causes : {F K L D : Type 0} (m : Meanings F K L D) (archive : List ℕ) (wanted : Wanted) → Causes m (reports_on m archive wanted)
reports_on_causes m archive wanted = reports_over_causes m archive (OfDays wanted)

-- a recovery of an archive ends a command by a disk fault or for want of memory
found_ends : (file : List ℕ) (start : BookStart) (output : Output) → FileHoldsRows file → FindsBook Read start file
    → (let r : Result Book Output = Err output in r) ≡ book_found start → IsReported output.status
found_ends file (found.Book book) output rows finds is = absurd cc
found_ends file (found.NotArchive bytes) output rows finds is = absurd (let e : holds rows.0 ≡ not_archive = sym rows.1 ∙ finds.0 in cc)
found_ends file found.OldVersion output rows finds is = absurd cc
found_ends file (found.Damaged place) output rows finds is = absurd (let e : holds rows.0 ≡ damaged place = sym rows.1 ∙ finds.0 in cc)
found_ends file found.DiskFault output rows finds is = inr (inl cc)
found_ends file found.OutOfMemory output rows finds is = inr (inr (inr cc))

told_ends : (told : Option (List ℕ)) (start : BookStart) (output : Output) → IsSomeAnd told FileHoldsRows → WhereTold told (FindsBook Read start)
    → (let r : Result Book Output = Err output in r) ≡ book_found start → IsReported output.status
told_ends None start output rows finds is = absurd rows
told_ends (Some file) start output rows finds is = found_ends file start output rows (finds file refl) is

report_ends : (end : ReportEnd) → IsReported (report_given end).status
report_ends report_end.Done = inl refl
report_ends report_end.DiskFault = inr (inl refl)
report_ends report_end.WriteFault = inr (inr (inl refl))

-- a recovery that ended a command ended it so
abbrev IsReportedIfEnded : Result Book Output → Type 0
IsReportedIfEnded (Ok book) = Unit {0}
IsReportedIfEnded (Err output) = IsReported output.status

recovery_ends : {D : Type 0} (medium : Medium D) (old new : D) (result : Result Book Output) → IsSomeAnd (medium.seen old) FileHoldsRows
    → recovers medium most_rows Read old result new → IsReportedIfEnded result
recovery_ends medium old new (Ok book) tells did = tt
recovery_ends medium old new (Err output) tells did = told_ends (medium.seen old) did.start output tells did.finds did.given

-- so does one behind the attach of its file
pub archive_ends : {F K L D : Type 0} (m : Meanings F K L D) (archive : List ℕ) (old new : Outside F K L D) (output : Output)
    → TellsArchive m.medium old.disk → reads_archive m archive old (Err output) new → IsReported output.status
archive_ends m archive old new output tells did =
    then_has IsReportedIfEnded _ _ old new (Err output)
    (λ output mid one. inr (inl (attach_ends _ _ _ _ _ output one.0)))
    (λ a mid one two. recovery_ends m.medium mid.disk new.disk (Err output)
    (subst (λ (told : Option (List ℕ)). IsSomeAnd told FileHoldsRows) (sym one.0.did.stays.reads) tells) two.0)
    did

-- over an archive the lines are written, unless a disk fault, a write fault or want of memory keeps them from that
pub reports_over_complete : {F K L D : Type 0} (m : Meanings F K L D) (archive : List ℕ) (report : ArchiveReport)
    (old new : Outside F K L D) (ended : Result Lines Output) → TellsArchive m.medium old.disk → reports_over m archive report old ended new
    → IsReported (output_of ended).status
reports_over_complete m archive report old new ended tells did =
    let Q : Result Lines Output → Type 0 = λ result. IsReported (output_of result).status in
    then_has Q _ _ old new ended
    (λ output mid one. archive_ends m archive old mid output tells one)
    (λ book mid one two. subst (λ (output : Output). IsReported output.status) (sym two.given) (report_ends two.end))
    did

-- so is the report of some days
pub reports_on_complete : {F K L D : Type 0} (m : Meanings F K L D) (archive : List ℕ) (wanted : Wanted) (old new : Outside F K L D)
    (ended : Result Lines Output) → TellsArchive m.medium old.disk → reports_on m archive wanted old ended new → IsReported (output_of ended).status
reports_on_complete m archive wanted = reports_over_complete m archive (OfDays wanted)
