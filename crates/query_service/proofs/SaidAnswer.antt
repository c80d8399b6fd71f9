-- What an answer that is said over a link does, by how it ends.
use Rattle.std.proofs.Common.{ℕ, ◌≡◌, List, Option, Some, None, refl, sym, ap, subst, ◌∙◌, arith}
use Rattle.causes.specs.Cause.{Rose}
use Rattle.disk_model.specs.Medium.{Medium}
use Rattle.serial_link.specs.Traffic.{Traffic}
use Rattle.weather_book.specs.declared.book.Book.{Book}
use Rattle.weather_reports.specs.declared.end.ReportEnd.{ReportEnd}
use Rattle.weather_reports.specs.declared.end.ReportEnd.TheVariants as report
use Rattle.query_service.specs.Answers.{answer_to}
use Rattle.query_service.specs.Asked.{LineAsks}
use Rattle.query_service.specs.Ends.{query_end}
use Rattle.query_service.specs.Refused.{Refuses, refused}
use Rattle.query_service.specs.Said.{BookReplies}
use Rattle.query_service.specs.SaidOver.{saying_outlet}
use Rattle.query_service.specs.Service.{ServesQueries}
use Rattle.query_service.specs.Turns.{AnswersLine, IsAnswer}
use Rattle.query_service.specs.declared.link_sink.LinkSink.{LinkSink}
use Rattle.query_service.specs.declared.link_sink.Refusal.{Refusal}
use Rattle.query_service.specs.declared.link_sink.Refusal.TheVariants as refusal
use Rattle.query_service.specs.declared.request.Request.{Request}
use Rattle.query_service.specs.declared.service.QueryEnd.TheVariants.{Done, LinkFault, DiskFault, OutOfMemory}

-- no piece was refused where the count of refused ones stands
none_refused : (r : Refusal) (count : ℕ) → refused (Some r) ≡ count → count ≡ 0 → ⊥
none_refused r count is none = omega (arith, is, none)

module _ {L D : Type 0} (traffic : Traffic L) (medium : Medium D) (book : Book) (line : List ℕ) (request : Request) (asks : LineAsks line request)
    (disk disk' : D) (old new : LinkSink L) (free : old.refusal ≡ None) where
  -- what became of the link's counts
  counts : (why : Option Refusal) → new.refusal ≡ why
      → Refuses old.refusal new.refusal (traffic.faults old.link.now) (traffic.faults new.link.now) (traffic.shortages old.link.now) (traffic.shortages new.link.now)
      → Refuses None why (traffic.faults old.link.now) (traffic.faults new.link.now) (traffic.shortages old.link.now) (traffic.shortages new.link.now)
  counts why is refuses =
      let F : Option Refusal → Option Refusal → Type 0 = λ (o n : Option Refusal). Refuses o n (traffic.faults old.link.now) (traffic.faults new.link.now)
      (traffic.shortages old.link.now) (traffic.shortages new.link.now) in
      subst (λ (n : Option Refusal). F None n) is (subst (λ (o : Option Refusal). F o new.refusal) free refuses)

  answered_by : (end : ReportEnd) (why : Option Refusal) → new.refusal ≡ why
      → BookReplies (saying_outlet traffic) medium book (λ rows. answer_to rows request) end disk disk' old new
      → ServesQueries traffic medium book (query_end end why) (AnswersLine medium book disk (query_end end why) line) old.link.now new.link.now disk disk'
  answered_by report.Done None is by =
      let over = by.wrote.1 in let r = counts None is over.refuses in
      record {
        talk = record {
          talk = record {
            items = over.talk;
            are = record {
              only = over.only;
              answers = λ rows stands x told. (request, asks, subst (λ (b : List ℕ). IsAnswer (answer_to rows request) Done b) (sym over.said_is) (by.wrote.2 rows stands x told));
            };
            adds = over.adds;
          };
          fault = record { never_falls = omega (arith, r.faults); rose = λ e. absurd (let bad : Done ≡ LinkFault = e in cc) };
          shortage = record { never_falls = omega (arith, r.shortages); rose = λ e. absurd (let bad : Done ≡ OutOfMemory = e in cc) };
        };
        still = record { faults = λ _. r.faults; quiets = λ no. absurd (no tt); shortages = λ _. r.shortages };
        stays = by.stays;
        went = λ rows stands. let reads = by.went rows stands in record { failed = reads.failed; by_end = reads.by_end; looked = reads.looked };
        disk_fault = record { never_falls = by.disk_fault.never_falls; rose = λ e. absurd (let bad : Done ≡ DiskFault = e in cc) };
      }
  answered_by report.Done (Some r) is by =
      absurd (none_refused r (refused old.refusal) (sym (ap refused is) ∙ by.sink_still (λ e. absurd (let bad : report.Done ≡ report.WriteFault = e in cc))) (ap refused free))
  answered_by report.DiskFault None is by =
      let over = by.wrote.1 in let r = counts None is over.refuses in
      record {
        talk = record {
          talk = record {
            items = over.talk;
            are = record {
              only = over.only;
              answers = λ rows stands x told. (request, asks, subst (λ (b : List ℕ). IsAnswer (answer_to rows request) DiskFault b) (sym over.said_is) (by.wrote.2 rows stands x told));
            };
            adds = over.adds;
          };
          fault = record { never_falls = omega (arith, r.faults); rose = λ e. absurd (let bad : DiskFault ≡ LinkFault = e in cc) };
          shortage = record { never_falls = omega (arith, r.shortages); rose = λ e. absurd (let bad : DiskFault ≡ OutOfMemory = e in cc) };
        };
        still = record { faults = λ _. r.faults; quiets = λ no. absurd (no tt); shortages = λ _. r.shortages };
        stays = by.stays;
        went = λ rows stands. let reads = by.went rows stands in record { failed = reads.failed; by_end = reads.by_end; looked = reads.looked };
        disk_fault = record { never_falls = by.disk_fault.never_falls; rose = λ e. by.disk_fault.rose refl };
      }
  answered_by report.DiskFault (Some r) is by =
      absurd (none_refused r (refused old.refusal) (sym (ap refused is) ∙ by.sink_still (λ e. absurd (let bad : report.DiskFault ≡ report.WriteFault = e in cc))) (ap refused free))
  answered_by report.WriteFault None is by =
      let rose : Rose (refused old.refusal) (refused new.refusal) = by.write_fault.rose refl in
      absurd (omega (arith, rose, ap refused is))
  answered_by report.WriteFault (Some refusal.LinkFault) is by =
      let over = by.wrote.1 in let r = counts (Some refusal.LinkFault) is over.refuses in
      record {
        talk = record {
          talk = record {
            items = over.talk;
            are = record {
              only = over.only;
              answers = λ rows stands x told. (request, asks, subst (λ (b : List ℕ). IsAnswer (answer_to rows request) LinkFault b) (sym over.said_is) (by.wrote.2 rows stands x told));
            };
            adds = over.adds;
          };
          fault = record { never_falls = r.never_falls; rose = λ e. r.rose };
          shortage = record { never_falls = omega (arith, r.stands); rose = λ e. absurd (let bad : LinkFault ≡ OutOfMemory = e in cc) };
        };
        still = record { faults = λ no. absurd (no refl); quiets = λ no. absurd (no tt); shortages = λ _. r.stands };
        stays = by.stays;
        went = λ rows stands. let reads = by.went rows stands in record { failed = reads.failed; by_end = tt; looked = reads.looked };
        disk_fault = record { never_falls = by.disk_fault.never_falls; rose = λ e. absurd (let bad : LinkFault ≡ DiskFault = e in cc) };
      }
  answered_by report.WriteFault (Some refusal.OutOfMemory) is by =
      let over = by.wrote.1 in let r = counts (Some refusal.OutOfMemory) is over.refuses in
      record {
        talk = record {
          talk = record {
            items = over.talk;
            are = record {
              only = over.only;
              answers = λ rows stands x told. (request, asks, subst (λ (b : List ℕ). IsAnswer (answer_to rows request) OutOfMemory b) (sym over.said_is) (by.wrote.2 rows stands x told));
            };
            adds = over.adds;
          };
          fault = record { never_falls = omega (arith, r.stands); rose = λ e. absurd (let bad : OutOfMemory ≡ LinkFault = e in cc) };
          shortage = record { never_falls = r.never_falls; rose = λ e. r.rose };
        };
        still = record { faults = λ _. r.stands; quiets = λ no. absurd (no tt); shortages = λ no. absurd (no refl) };
        stays = by.stays;
        went = λ rows stands. let reads = by.went rows stands in record { failed = reads.failed; by_end = tt; looked = reads.looked };
        disk_fault = record { never_falls = by.disk_fault.never_falls; rose = λ e. absurd (let bad : OutOfMemory ≡ DiskFault = e in cc) };
      }

  -- the answer to a line, through a sink over the link that had refused nothing
  pub answered : (end : ReportEnd) → BookReplies (saying_outlet traffic) medium book (λ rows. answer_to rows request) end disk disk' old new
      → ServesQueries traffic medium book (query_end end new.refusal) (AnswersLine medium book disk (query_end end new.refusal) line) old.link.now new.link.now disk disk'
  answered end by = answered_by end new.refusal refl by
