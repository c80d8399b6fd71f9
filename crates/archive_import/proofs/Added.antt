-- What an import did behind the rows that it found, however its adding ended.
use Rattle.std.proofs.Common.{◌≡◌, ◌≤◌, ◌-◌, ℕ, Bool, false, List, Option, Some, refl, sym, ◌∙◌, ap}
use Rattle.causes.specs.Lists.{IsFrontOf}
use Rattle.causes.specs.Told.{WhereTold}
use Rattle.disk_model.specs.Medium.{Medium}
use Rattle.disk_model.specs.Disk.{LeavesOnly}
use Rattle.gated_log.specs.Calls.{RecoveryCalls}
use Rattle.station_base.specs.CivilMinute.{CivilMinute}
use Rattle.station_base.specs.declared.row.Row.{Row}
use Rattle.packed_rows.specs.Rising.{last_row_stamp}
use Rattle.packed_rows.specs.Rows.{holds, rows_of, slot_total}
use Rattle.row_text.specs.RowsLeft.{rows_left}
use Rattle.row_text.specs.RowsOfText.{rows_of_text}
use Rattle.row_text.specs.declared.text_rows.TextRows.{TextRows}
use Rattle.weather_book.proofs.Looks.{no_look}
use Rattle.weather_book.proofs.RowsOfBook.{slots_same}
use Rattle.weather_book.specs.Book.{BookStandsFor, slots_of_book}
use Rattle.weather_book.specs.Stands.{HasRows, NowHasRows, ReadsRows}
use Rattle.weather_book.specs.declared.book.Book.{Book}
use Rattle.batch_adding.specs.Adding.{HasSome}
use Rattle.batch_adding.specs.Calls.{AddsBatches, slots_end, ToCalls}
use Rattle.batch_adding.proofs.BookAtRest.{adds_none, same_rows, same_some}
use Rattle.batch_adding.proofs.CallsTogether.{calls_added}
use Rattle.batch_adding.proofs.Kept.{leaves_join}
use Rattle.archive_import.specs.Importing.{later_rows, rows_to_import}
use Rattle.archive_import.specs.Texts.{rows_ahead, rows_told, text_rows}

-- the later rows of the lines of a text are those that an archive gets
pub later_same : (mine : List Row) (last : Option CivilMinute) (lines : TextRows) (text : List ℕ) → last ≡ last_row_stamp mine → rows_left lines ≡ rows_of_text text
    → later_rows last (rows_ahead lines) ≡ rows_to_import mine (text_rows text)
later_same mine last lines text stamp same =
    ap (λ (o : Option CivilMinute). later_rows o (rows_ahead lines)) stamp ∙ ap (later_rows (last_row_stamp mine)) (ap rows_told same)

module _ {E : Type 0} (medium : Medium E) (mine rows come : List Row) (d e f : E) (reads : ReadsRows medium d mine) (came : come ≡ rows_to_import mine rows)
    (later : medium.moment d ≤ medium.moment e) where
  -- its calls: those of the recovery, and those of the adding
  pub calls_later : (book : Book) (failed : Bool) → BookStandsFor book mine → RecoveryCalls medium d e (medium.moment e - medium.moment d) (slots_of_book book) false
      → AddsBatches medium mine failed (λ next. IsFrontOf next come) e f
      → ToCalls medium failed (λ held next. WhereTold (medium.seen d) (λ old. (rows_of old ≡ holds held) × IsFrontOf next (rows_to_import held rows))) d f
  calls_later book failed stands went adds =
      let slots = slots_same book mine stands in
      let opened = rw slots at went in
      calls_added medium d mine _ _ e e f (slot_total mine) failed later refl opened (no_look medium (slots_end (slot_total mine)) e) adds
      (λ next front image told. (reads image told, rw (sym came) front))

  -- what a crash leaves: the rows that the archive had, and then none or more of those that it gets
  pub leaves_later : (image : List ℕ) (held : List Row) → medium.seen d ≡ Some image → NowHasRows medium d held → LeavesOnly medium (HasRows held) d e
      → LeavesOnly medium (HasSome mine come) e f → LeavesOnly medium (HasSome held (rows_to_import held rows)) d f
  leaves_later image held told crash opened added =
      let alike = same_rows medium d image held mine told crash reads in
      let next : come ≡ rows_to_import held rows = came ∙ ap (λ (r : List Row). rows_to_import r rows) (sym alike) in
      leaves_join medium (HasSome held (rows_to_import held rows)) (HasSome mine come) d e f later (adds_none medium held (rows_to_import held rows) d e opened) added
      (λ c some. same_some mine held come (rows_to_import held rows) c (sym alike) next some)
