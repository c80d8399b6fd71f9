-- A service: each fault has a cause, and over an archive only a fault or want of memory keeps it from all of its turns.
use Rattle.std.proofs.Common.{◌≡◌, ◌≢◌, ℕ, List, [], ◌∷◌, refl, sym, subst, ◌∙◌, arith, inl, inr}
use Rattle.std.specs.declared.result.Result.{Result}
use Rattle.disk_model.specs.Medium.{Medium}
use Rattle.query_service.specs.Service.{ReadsFor}
use Rattle.query_service.specs.declared.service.QueryEnd.{QueryEnd}
use Rattle.query_service.specs.declared.service.QueryEnd.TheVariants as query_end
use Rattle.serial_link.specs.declared.link.Side.TheVariants.{Serve}
use Rattle.station_base.specs.declared.row.Row.{Row}
use Rattle.weather_book.specs.declared.book.Book.{Book}
use Rattle.run_output.specs.Causes.{HasCausesBut, WentWell}
use Rattle.run_output.specs.Ended.{EndsAmong, IsOneOf, Lines, output_of}
use Rattle.run_output.specs.Output.{Output}
use Rattle.run_output.specs.Outside.{Meanings}
use Rattle.run_output.specs.declared.outside.Outside.{Outside}
use Rattle.run_output.specs.declared.status.Status.{Status}
use Rattle.run_output.specs.declared.status.Status.TheVariants as ends
use Rattle.run_output.proofs.Behind.{then_has}
use Rattle.run_output.proofs.CallCauses.{calls_causes}
use Rattle.run_output.proofs.Causes.{CausesBut, none_well, same_count, then_causes_but}
use Rattle.run_output.proofs.Statuses.{call_ends, ends_among, ends_so, has_status}
use Rattle.commands.specs.AnswerRun.{answers, answers_over, queries_output}
use Rattle.commands.specs.ReportRun.{TellsArchive}
use Rattle.commands.proofs.RecoveryLaws.{reads_archive_causes}
use Rattle.commands.proofs.ReportLaws.{IsReported, archive_ends}

-- the link's faults go before one of the disk
abbrev pub cut_off : List Status
cut_off = ends.LinkFault ∷ ends.WriteFault ∷ ends.OutOfMemory ∷ []

-- answered for all turns, unless a fault of link, disk or sink, or want of memory kept the command from that
abbrev pub answered_all : List Status
answered_all = ends.Done ∷ ends.LinkFault ∷ ends.DiskFault ∷ ends.WriteFault ∷ ends.OutOfMemory ∷ []

abbrev IsAnswered : Status → Type 0
IsAnswered = IsOneOf answered_all

-- What the end of a service says of its status.
record EndsAs (end : QueryEnd) (status : Status) : Type 0 where
  no_read : status ≢ ends.ReadFault
  no_write : status ≢ ends.WriteFault
  link : status ≡ ends.LinkFault → end ≡ query_end.LinkFault
  disk : status ≡ ends.DiskFault → end ≡ query_end.DiskFault

ends_as : (end : QueryEnd) (lines : ℕ) → EndsAs end (queries_output end lines).status
ends_as query_end.LinkFault lines = record { no_read = λ is. cc; no_write = λ is. cc; link = λ is. refl; disk = λ is. absurd cc }
ends_as query_end.DiskFault lines = record { no_read = λ is. cc; no_write = λ is. cc; link = λ is. absurd cc; disk = λ is. refl }
ends_as end lines = record { no_read = λ is. cc; no_write = λ is. cc; link = λ is. absurd cc; disk = λ is. absurd cc }

-- where neither a disk fault nor another end cut the service off all reads were done
all_read : {D : Type 0} (medium : Medium D) (rows : List Row) (end : QueryEnd) (lines : ℕ) (result : Result Lines Output) (old new : D)
    → output_of result ≡ queries_output end lines → (queries_output end lines).status ≢ ends.DiskFault → ¬ (EndsAmong cut_off result)
    → ReadsFor medium rows end old new → WentWell medium old new
all_read medium rows query_end.Done lines result old new given disk whole reads =
    record { calls = reads.looked.calls; by = reads.looked.by; well = reads.looked.fails ∙ reads.by_end }
all_read medium rows query_end.DiskFault lines result old new given disk whole reads = absurd (disk refl)
all_read medium rows query_end.LinkFault lines result old new given disk whole reads =
    absurd (whole (ends_among cut_off result _ given (λ e. cc) (inl refl)))
all_read medium rows query_end.OutOfMemory lines result old new given disk whole reads =
    absurd (whole (ends_among cut_off result _ given (λ e. cc) (inr (inr refl))))

answers_causes : {F K L D : Type 0} (m : Meanings F K L D) (turns : ℕ) (book : Book) → CausesBut m (EndsAmong cut_off) (answers m turns book)
answers_causes {F} {K} {L} {D} m turns book old new result did =
    let says = ends_as did.end did.lines in
    subst (λ (w : Outside F K L D). HasCausesBut m (EndsAmong cut_off result) old result w) (sym did.alone) (record {
      files = same_count (m.shelf.faults old.files) (λ by. says.no_read (has_status _ result _ did.given by));
      sink = same_count (m.outlet.faults old.out) (λ by. says.no_write (has_status _ result _ did.given by));
      link = record {
        never_falls = did.talks.fault.never_falls;
        rose = λ by. did.talks.fault.rose (says.link (has_status _ result _ did.given by));
      };
      disks = record {
        rose = λ by. inl (did.disk_cause.rose (says.disk (has_status _ result _ did.given by)));
        disk_never_falls = did.disk_cause.never_falls;
        second_never_falls = omega arith;
        disk_well = λ disk whole. all_read m.medium did.rows did.end did.lines result old.disk new.disk did.given
            (λ is. disk (ends_so _ result _ did.given (λ e. cc) is)) whole did.reads;
        second_well = λ _ _. none_well m.medium old.second;
      };
    })

-- a service has causes, where the link's faults may hide one of the disk
pub answers_over_causes : {F K L D : Type 0} (m : Meanings F K L D) (archive address : List ℕ) (turns : ℕ)
    → CausesBut m (EndsAmong cut_off) (answers_over m archive address turns)
answers_over_causes m archive address turns =
    then_causes_but m (EndsAmong cut_off) _ _ (reads_archive_causes m archive) (λ book.
    then_causes_but m (EndsAmong cut_off) _ _ (calls_causes m Serve address) (λ _. answers_causes m turns book)
    (λ output is. inr (inl is))) (λ output is. inr (inl is))

reported : (status : Status) → IsReported status → IsAnswered status
reported status (inl done) = inl done
reported status (inr (inl disk)) = inr (inr (inl disk))
reported status (inr (inr (inl write))) = inr (inr (inr (inl write)))
reported status (inr (inr (inr none))) = inr (inr (inr (inr none)))

answered_as : (end : QueryEnd) (lines : ℕ) → IsAnswered (queries_output end lines).status
answered_as query_end.Done lines = inl refl
answered_as query_end.LinkFault lines = inr (inl refl)
answered_as query_end.DiskFault lines = inr (inr (inl refl))
answered_as query_end.OutOfMemory lines = inr (inr (inr (inr refl)))

-- over an archive requests are answered for all turns, unless a fault of link, disk or sink, or want of memory keeps the command
-- from that
pub answers_over_complete : {F K L D : Type 0} (m : Meanings F K L D) (archive address : List ℕ) (turns : ℕ) (old new : Outside F K L D)
    (ended : Result Lines Output) → TellsArchive m.medium old.disk → answers_over m archive address turns old ended new
    → IsAnswered (output_of ended).status
answers_over_complete m archive address turns old new ended tells did =
    let Q : Result Lines Output → Type 0 = λ result. IsAnswered (output_of result).status in
    then_has Q _ _ old new ended
    (λ output mid one. reported output.status (archive_ends m archive old mid output tells one))
    (λ book at one. then_has Q _ _ at new ended
    (λ output w two. inr (inl (call_ends _ _ _ _ _ output two.0)))
    (λ _ called two three. subst (λ (output : Output). IsAnswered output.status) (sym three.given) (answered_as three.end three.lines)))
    did
