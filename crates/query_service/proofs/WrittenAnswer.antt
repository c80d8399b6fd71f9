-- What answers write, by what the reports and writes under them wrote.
use Rattle.std.proofs.Common.{ℕ, ◌≡◌, ◌≢◌, List, [], ◌∷◌, ◌++◌, false, refl, sym, ap, subst, ◌∙◌, append_assoc, arith, ◌+◌, ◌-◌, length, map, drop, suc}
use Rattle.std.proofs.lemmas.List.{append-nil}
use Rattle.std.specs.Prelude.{◌*◌}
use Rattle.causes.specs.Cause.{Rose}
use Rattle.causes.specs.Lists.{IsFrontOf}
use Rattle.disk_model.specs.Disk.{stays_none}
use Rattle.disk_model.specs.Medium.{Medium}
use Rattle.station_base.specs.RowLine.{row_line}
use Rattle.station_base.specs.declared.row.Row.{Row}
use Rattle.station_io.specs.Sink.{Outlet}
use Rattle.gated_log.specs.Layout.{slot_size}
use Rattle.weather_book.specs.Book.{BookStandsFor}
use Rattle.packed_rows.specs.Rows.{slot_total}
use Rattle.weather_book.specs.declared.book.Book.{Book}
use Rattle.weather_book.proofs.Looks.{no_look}
use Rattle.weather_reports.specs.Made.{MakesReport}
use Rattle.weather_reports.specs.Report.{later_lines}
use Rattle.weather_reports.specs.Reported.{IsReport, ReadsOver, text_of_lines}
use Rattle.weather_reports.specs.declared.end.ReportEnd.{ReportEnd}
use Rattle.weather_reports.specs.declared.end.ReportEnd.TheVariants.{Done, DiskFault, WriteFault}
use Rattle.weather_reports.proofs.Behind.{wrote_more}
use Rattle.weather_reports.proofs.Lines.{text_join}
use Rattle.weather_reports.proofs.MadeReports.{reads_as}
use Rattle.query_service.specs.Answers.{last_row_line}
use Rattle.query_service.specs.Said.{IsReply, BookReplies, QuerySays}

-- the text of some lines in front is a front of the text of all
front_text : (front lines : List (List ℕ)) → IsFrontOf front lines → IsFrontOf (text_of_lines front) (text_of_lines lines)
front_text front lines some = (text_of_lines some.0, sym (text_join front some.0) ∙ ap text_of_lines some.1)

-- what a report writes of its lines
pub report_reply : (end : ReportEnd) (lines : List (List ℕ)) (written : List ℕ) → IsReport lines end written → IsReply (text_of_lines lines) end written
report_reply Done lines written is = is
report_reply DiskFault lines written is =
    subst (λ (w : List ℕ). IsFrontOf w (text_of_lines lines)) (sym is.2) (front_text is.0 lines is.1)
report_reply WriteFault lines written is =
    (is.left, ap (λ (w : List ℕ). w ++ is.left) is.leaves.appended ∙ is.leaves.whole)

-- a report that broke off wrote a front of its lines with something behind them
reply_cut : (end : ReportEnd) (text tail written : List ℕ) → end ≢ Done → IsReply text end written → IsReply (text ++ tail) end written
reply_cut Done text tail written broke is = absurd (broke refl)
reply_cut DiskFault text tail written broke is =
    (is.0 ++ tail, sym (append_assoc written is.0 tail) ∙ ap (λ (w : List ℕ). w ++ tail) is.1)
reply_cut WriteFault text tail written broke is =
    (is.0 ++ tail, sym (append_assoc written is.0 tail) ∙ ap (λ (w : List ℕ). w ++ tail) is.1)

-- behind a whole text another was written, or a front of it
reply_behind : (end : ReportEnd) (text tail written : List ℕ) → IsReply tail end written → IsReply (text ++ tail) end (text ++ written)
reply_behind Done text tail written is = ap (λ (w : List ℕ). text ++ w) is
reply_behind DiskFault text tail written is = (is.0, append_assoc text written is.0 ∙ ap (λ (w : List ℕ). text ++ w) is.1)
reply_behind WriteFault text tail written is = (is.0, append_assoc text written is.0 ∙ ap (λ (w : List ℕ). text ++ w) is.1)

-- the last row is the one behind all but one
pub last_text : (row : Row) (rows : List Row) → text_of_lines (map row_line (drop (length (row ∷ rows) - 1) (row ∷ rows))) ≡ last_row_line (row ∷ rows)
last_text row [] = append-nil (row_line row)
last_text row (next ∷ rows) =
    let more : length (row ∷ next ∷ rows) - 1 ≡ suc (length (next ∷ rows) - 1) = omega arith in
    ap (λ (n : ℕ). text_of_lines (map row_line (drop n (row ∷ next ∷ rows)))) more ∙ last_text next rows

-- of so many rows, of which there are some
pub last_of : (count : ℕ) (rows : List Row) → (count ≡ 0 → ⊥) → count ≡ length rows → text_of_lines (later_lines (count - 1) rows) ≡ last_row_line rows
last_of count [] some is = absurd (some is)
last_of count (row ∷ rows) some is =
    ap (λ (n : ℕ). text_of_lines (map row_line (drop (n - 1) (row ∷ rows)))) is ∙ last_text row rows

module _ {K D : Type 0} (outlet : Outlet K) (medium : Medium D) (book : Book) where
  -- no read was made
  no_reads : (disk : D) (end : ReportEnd) (rows : List Row) → end ≢ DiskFault → ReadsOver medium rows end disk disk
  no_reads disk Done rows no_read = record { failed = false; by_end = refl; looked = no_look medium (slot_size * (slot_total rows + 1)) disk }
  no_reads disk DiskFault rows no_read = absurd (no_read refl)
  no_reads disk WriteFault rows no_read = record { failed = false; by_end = tt; looked = no_look medium (slot_size * (slot_total rows + 1)) disk }

  -- an answer that no read is made for
  pub replies_said : (answer : List Row → List ℕ) (bytes : List ℕ) (end : ReportEnd) (disk : D) (old new : K) → QuerySays outlet bytes end old new
      → ((rows : List Row) → BookStandsFor book rows → bytes ≡ answer rows) → BookReplies outlet medium book answer end disk disk old new
  replies_said answer bytes end disk old new says is = record {
    wrote = (
      says.wrote.0,
      says.wrote.1,
      λ rows stands x told. subst (λ (text : List ℕ). IsReply text end says.wrote.0) (is rows stands.stands_for) says.wrote.2,
    );
    stays = stays_none medium disk;
    went = λ rows stands. no_reads disk end rows says.no_read;
    disk_fault = record { never_falls = omega arith; rose = λ is. absurd (says.no_read is) };
    write_fault = says.cause;
    sink_still = says.still;
  }

  module _ (lines : List Row → List (List ℕ)) (end : ReportEnd) (disk disk' : D) (old now : K)
      (made : MakesReport outlet medium book lines end disk disk' old now) where
    -- an answer that is a report
    pub replies_report : (answer : List Row → List ℕ) → ((rows : List Row) → BookStandsFor book rows → text_of_lines (lines rows) ≡ answer rows)
        → BookReplies outlet medium book answer end disk disk' old now
    replies_report answer is =
        reads_as outlet medium book _ (λ rows. IsReply (answer rows) end) end disk disk' old now made.by_reads (λ rows stands x told w before.
        subst (λ (text : List ℕ). IsReply text end w) (is rows stands.stands_for) (report_reply end (lines rows) w before))

    -- a report that broke off, behind which something would have been written
    pub replies_cut : (tail : List ℕ) → end ≢ Done → BookReplies outlet medium book (λ rows. text_of_lines (lines rows) ++ tail) end disk disk' old now
    replies_cut tail broke =
        reads_as outlet medium book _ (λ rows. IsReply (text_of_lines (lines rows) ++ tail) end) end disk disk' old now made.by_reads (λ rows stands x told w before.
        reply_cut end (text_of_lines (lines rows)) tail w broke (report_reply end (lines rows) w before))

  -- behind reads that all went well no more were made
  went_on : (end : ReportEnd) (rows : List Row) (disk disk' : D) → end ≢ DiskFault → ReadsOver medium rows Done disk disk' → ReadsOver medium rows end disk disk'
  went_on Done rows disk disk' no_read reads = reads
  went_on DiskFault rows disk disk' no_read reads = absurd (no_read refl)
  went_on WriteFault rows disk disk' no_read reads = record { failed = reads.failed; by_end = tt; looked = reads.looked }

  -- behind a whole report something was written
  pub replies_behind : (lines : List Row → List (List ℕ)) (tail : List ℕ) (end : ReportEnd) (disk disk' : D) (old now new : K)
      → BookReplies outlet medium book (λ rows. text_of_lines (lines rows)) Done disk disk' old now → QuerySays outlet tail end now new
      → BookReplies outlet medium book (λ rows. text_of_lines (lines rows) ++ tail) end disk disk' old new
  replies_behind lines tail end disk disk' old now new one says = record {
    wrote = wrote_more outlet medium book disk _ _ old now new says.wrote.0 one.wrote says.wrote.1 (λ rows stands x told w before.
        subst (λ (text : List ℕ). IsReply (text_of_lines (lines rows) ++ tail) end (text ++ says.wrote.0)) (sym before)
        (reply_behind end (text_of_lines (lines rows)) tail says.wrote.0 says.wrote.2));
    stays = one.stays;
    went = λ rows stands. went_on end rows disk disk' says.no_read (one.went rows stands);
    disk_fault = record { never_falls = one.disk_fault.never_falls; rose = λ is. absurd (says.no_read is) };
    write_fault = record {
      never_falls = omega (arith, one.write_fault.never_falls, says.cause.never_falls);
      rose = λ is. let later : Rose (outlet.faults now) (outlet.faults new) = says.cause.rose is in omega (arith, later, one.write_fault.never_falls);
    };
    sink_still = λ no. says.still no ∙ one.sink_still (λ e. absurd (let bad : Done ≡ WriteFault = e in cc));
  }
