-- How a report was made, by how it ended: whole, at a read that failed, or at a write that failed.
use Rattle.std.proofs.Common.{◌≡◌, ◌≢◌, ◌⊎◌, ◌≤◌, ◌+◌, ◌*◌, ℕ, Bool, true, false, List, Some, refl, sym, ◌∙◌, subst, ⊎_elim, arith}
use Rattle.causes.specs.Cause.{Cause, Rose}
use Rattle.disk_model.specs.Disk.{Stays}
use Rattle.disk_model.specs.Medium.{Medium}
use Rattle.gated_log.specs.Calls.{Looked}
use Rattle.gated_log.specs.Layout.{slot_size}
use Rattle.packed_rows.specs.Rows.{slot_total}
use Rattle.station_base.specs.declared.row.Row.{Row}
use Rattle.station_io.specs.Sink.{Outlet}
use Rattle.weather_book.specs.Book.{BookStandsFor}
use Rattle.weather_book.specs.Stands.{StandsToReadOn}
use Rattle.weather_book.specs.declared.book.Book.{Book}
use Rattle.weather_reports.specs.Made.{MakesReport, WritesByReads}
use Rattle.weather_reports.specs.Reported.{IsReport, Reports}
use Rattle.weather_reports.specs.Wrote.{Wrote}
use Rattle.weather_reports.specs.declared.end.ReportEnd.{ReportEnd}
use Rattle.weather_reports.specs.declared.end.ReportEnd.TheVariants.{Done, DiskFault, WriteFault}
use Rattle.weather_reports.proofs.Behind.{wrote_as}
use Rattle.weather_reports.proofs.Ends.{none_failed, one_failed}

module _ {K D : Type 0} (outlet : Outlet K) (medium : Medium D) (book : Book) where
  -- reads within the slots of the rows were made, of which the last one may have failed
  abbrev pub LooksOver : Bool → D → D → Type 0
  LooksOver failed old new =
      (rows : List Row) → BookStandsFor book rows → Looked medium (slot_size * (slot_total rows + 1)) failed old new

  module _ (P : List Row → List ℕ → Type 0) (disk now : D) (out at out' : K) (same : outlet.faults at ≡ outlet.faults out)
      (stays : Stays medium disk now) (wrote : Wrote outlet medium book disk P out out') where
    -- its last write ended it
    pub made_whole : (end : ReportEnd) → medium.faults disk ≤ medium.faults now → LooksOver false disk now
        → (end ≡ Done) ⊎ (end ≡ WriteFault) → Cause (outlet.faults at) (outlet.faults out') (end ≢ Done)
        → (end ≢ WriteFault → outlet.faults out' ≡ outlet.faults at) → WritesByReads outlet medium book P end disk now out out'
    made_whole end risen looked kind cause still = record {
      wrote = wrote;
      stays = stays;
      went = λ rows stands. record { failed = false; by_end = none_failed end kind; looked = looked rows stands };
      disk_fault = record {
        never_falls = risen;
        rose = λ is. ⊎_elim (λ done. absurd (let bad : Done ≡ DiskFault = sym done ∙ is in cc))
            (λ short. absurd (let bad : WriteFault ≡ DiskFault = sym short ∙ is in cc)) kind;
      };
      write_fault = record {
        never_falls = omega (arith, same, cause.never_falls);
        rose = λ is. let rose : Rose (outlet.faults at) (outlet.faults out') = cause.rose (λ done. absurd (let bad : Done ≡ WriteFault = sym done ∙ is in cc)) in
            omega (arith, same, rose);
      };
      sink_still = λ no. still no ∙ same;
    }

    -- A read failed, and then what waited was written.
    pub made_early : {A : Type 0} (before : D) (end : ReportEnd) → medium.faults disk ≤ medium.faults before → LooksOver true disk now
        → Cause (medium.faults before) (medium.faults now) A → A
        → (end ≡ DiskFault) ⊎ (end ≡ WriteFault) → Cause (outlet.faults at) (outlet.faults out') (end ≢ DiskFault)
        → (end ≢ WriteFault → outlet.faults out' ≡ outlet.faults at) → WritesByReads outlet medium book P end disk now out out'
    made_early before end risen looked fault failed kind cause still = record {
      wrote = wrote;
      stays = stays;
      went = λ rows stands. record { failed = true; by_end = one_failed end kind; looked = looked rows stands };
      disk_fault = record {
        never_falls = omega (arith, risen, fault.never_falls);
        rose = λ _. let rose : Rose (medium.faults before) (medium.faults now) = fault.rose failed in omega (arith, risen, rose);
      };
      write_fault = record {
        never_falls = omega (arith, same, cause.never_falls);
        rose = λ is. let rose : Rose (outlet.faults at) (outlet.faults out') = cause.rose (λ early. absurd (let bad : DiskFault ≡ WriteFault = sym early ∙ is in cc)) in
            omega (arith, same, rose);
      };
      sink_still = λ no. still no ∙ same;
    }

    -- a write failed
    pub made_short : {A : Type 0} → medium.faults disk ≤ medium.faults now → LooksOver false disk now → Cause (outlet.faults at) (outlet.faults out') A → A
        → WritesByReads outlet medium book P WriteFault disk now out out'
    made_short risen looked fault failed = record {
      wrote = wrote;
      stays = stays;
      went = λ rows stands. record { failed = false; by_end = tt; looked = looked rows stands };
      disk_fault = record { never_falls = risen; rose = λ is. absurd (let bad : WriteFault ≡ DiskFault = is in cc) };
      write_fault = record {
        never_falls = omega (arith, same, fault.never_falls);
        rose = λ _. let rose : Rose (outlet.faults at) (outlet.faults out') = fault.rose failed in omega (arith, same, rose);
      };
      sink_still = λ no. absurd (no refl);
    }

  -- what was written has a second property too
  pub reads_as : (P Q : List Row → List ℕ → Type 0) (end : ReportEnd) (disk now : D) (out out' : K) → WritesByReads outlet medium book P end disk now out out'
      → ((rows : List Row) → StandsToReadOn medium book disk rows → (x : List ℕ) → medium.seen disk ≡ Some x → (w : List ℕ) → P rows w → Q rows w)
      → WritesByReads outlet medium book Q end disk now out out'
  reads_as P Q end disk now out out' writes step = record {
    wrote = wrote_as outlet medium book disk P Q out out' writes.wrote step;
    stays = writes.stays;
    went = writes.went;
    disk_fault = writes.disk_fault;
    write_fault = writes.write_fault;
    sink_still = writes.sink_still;
  }

  -- a report of lines that are these is a report of these
  pub made_as : (report other : List Row → List (List ℕ)) (end : ReportEnd) (disk now : D) (out out' : K)
      → ((rows : List Row) → BookStandsFor book rows → report rows ≡ other rows)
      → MakesReport outlet medium book report end disk now out out' → MakesReport outlet medium book other end disk now out out'
  made_as report other end disk now out out' same made = record {
    lines = λ rows stands x told.
        subst (λ (ls : List (List ℕ)). Reports (outlet.taken out) (outlet.taken out') ls end) (same rows stands.stands_for) (made.lines rows stands x told);
    by_reads = reads_as (λ rows. IsReport (report rows) end) (λ rows. IsReport (other rows) end) end disk now out out' made.by_reads (λ rows stands x told w before.
        subst (λ (ls : List (List ℕ)). IsReport ls end w) (same rows stands.stands_for) before);
  }
