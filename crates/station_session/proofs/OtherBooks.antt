-- A round over another book that stands for the same rows of the disk.
use Rattle.std.proofs.Common.{◌≡◌, ◌≢◌, ℕ, Bool, List, [], length, refl, sym, ◌∙◌, ap, subst}
use Rattle.disk_model.specs.Medium.{Medium}
use Rattle.dmpaft_pump.specs.Keeper.{Handed}
use Rattle.packed_rows.specs.Rising.{last_row_stamp}
use Rattle.serial_link.specs.Traffic.{Traffic}
use Rattle.settings_file.specs.StationSettings.{StationSettings}
use Rattle.station_base.specs.declared.row.Row.{Row}
use Rattle.station_session.specs.Attempts.{all_batches}
use Rattle.station_session.specs.Batches.{Fit}
use Rattle.station_session.specs.Holding.{Holding, Stores, holding}
use Rattle.station_session.specs.Round.{AnswersRound, LeavesRound, RoundHost, ServesRound, round_host, stale_with}
use Rattle.station_session.specs.Session.{book_of, session_is_stale, session_most_rows, session_settings}
use Rattle.station_session.specs.declared.report.Mark.{Mark}
use Rattle.station_session.specs.declared.report.Report.{Report}
use Rattle.station_session.specs.declared.round_end.RoundEnd.{RoundEnd}
use Rattle.station_session.specs.declared.round_end.RoundEnd.TheVariants as round_end
use Rattle.station_session.specs.declared.session.Session.{Session}
use Rattle.weather_book.specs.Book.{book_is_stale, most_rows_of}
use Rattle.weather_book.specs.Stands.{StandsOn}
use Rattle.weather_book.specs.declared.book.Book.{Book}

-- a session of this book, with the settings of another
abbrev pub over_book : Book → Session → Session
over_book book session = record { book = book; settings = session_settings session }

stores_other : {D : Type 0} (medium : Medium D) (settings : StationSettings) (rows : List Row) (steps : Handed) (one other : Book) (disk : D) (marks : List Mark) (new : Holding D)
    → most_rows_of other ≡ most_rows_of one → StandsOn medium one disk rows → Stores medium settings rows steps (holding one disk marks) new
    → Stores medium settings rows steps (holding other disk marks) new
stores_other medium settings rows steps one other disk marks new most stands did = record {
  fit = subst (λ (n : ℕ). Fit n (length rows) steps) (sym most) did.fit;
  stands_for = did.stands_for;
  failed = did.failed;
  begun = did.begun;
  moved = did.moved;
  went_on = did.went_on;
  noted = did.noted;
  images = λ _. did.images stands;
  gate = λ fault _. did.gate fault stands;
  marked = λ _. did.marked stands;
  stands = λ well _. did.stands well stands;
  still = λ fault _. did.still fault stands;
}

pub serves_over : {L D : Type 0} {traffic : Traffic L} {medium : Medium D} {rows : List Row} {end : RoundEnd} {session new : Session} {link link' : L} {disk disk' : D} {report : Report} (book : Book)
    → most_rows_of book ≡ session_most_rows session → StandsOn medium (book_of session) disk rows
    → (did : ServesRound traffic medium rows end (round_host session link disk) (round_host new link' disk') report)
    → (over : ServesRound traffic medium rows end (round_host (over_book book session) link disk) (round_host new link' disk') report) × (over.tries ≡ did.tries)
serves_over {medium = medium} {rows = rows} {session = session} {disk = disk} book most stands did = (
  record {
    tries = did.tries;
    attempts = did.attempts;
    adds = did.adds;
    stores = stores_other medium (session_settings session) rows (all_batches (last_row_stamp rows) did.tries) (book_of session) book disk [] _ most stands did.stores;
    answered = did.answered;
    made = did.made;
    tally = did.tally;
    troubles = did.troubles;
    kept = did.kept;
    acknowledged = did.acknowledged;
  },
  refl,
)

pub answers_over : {L D : Type 0} {traffic : Traffic L} {medium : Medium D} {end : RoundEnd} {session new : Session} {link link' : L} {disk disk' : D} {attempts : ℕ} (book : Book)
    → book_is_stale book ≡ session_is_stale session → AnswersRound traffic medium end (round_host session link disk) (round_host new link' disk') attempts
    → AnswersRound traffic medium end (round_host (over_book book session) link disk) (round_host new link' disk') attempts
answers_over book same did = record {
  stale = (λ is. same ∙ did.stale.0 is, λ is. did.stale.1 (sym same ∙ is));
  fault = did.fault;
  shortage = did.shortage;
  disk_fault = did.disk_fault;
  waited = did.waited;
}

pub leaves_over : {L D : Type 0} {medium : Medium D} {end : RoundEnd} {session new : Session} {link link' : L} {disk disk' : D} {attempts : ℕ} (book : Book)
    → most_rows_of book ≡ session_most_rows session → book_is_stale book ≡ session_is_stale session → end ≢ round_end.Stale
    → LeavesRound medium end (round_host session link disk) (round_host new link' disk') attempts
    → LeavesRound medium end (round_host (over_book book session) link disk) (round_host new link' disk') attempts
leaves_over {end = end} book most same other did = record {
  at_once = λ is. absurd (other is);
  untouched = did.untouched;
  marked = did.marked ∙ sym (ap (λ (b : Bool). stale_with end b) same);
  settings = did.settings;
  most = did.most ∙ sym most;
  begun = did.begun;
}
