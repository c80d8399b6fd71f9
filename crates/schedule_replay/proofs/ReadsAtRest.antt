-- Reads of a disk at rest.
use Rattle.std.proofs.Common.{◌≡◌, ◌≢◌, ℕ, ◌+◌, ◌*◌, ◌≤◌, Bool, true, false, List, ◌∷◌, length, Some, sym, ap, subst, ◌∙◌, arith, length-append}
use Rattle.std.proofs.lemmas.Option.{same_Some}
use Rattle.disk_model.specs.Calls.{DiskCall}
use Rattle.disk_model.specs.Disk.{Stays}
use Rattle.disk_model.specs.Stopping.{stopping_medium, stopping_state_of}
use Rattle.disk_model.specs.StoppingState.{StoppingState, after_stops}
use Rattle.disk_model.specs.declared.mem_disk.MemDisk.{MemDisk}
use Rattle.disk_model.specs.declared.stopping.Stopping.{Stopping}
use Rattle.gated_log.specs.Calls.{Looked, any_failed, reads_within}
use Rattle.gated_log.proofs.CallsMade.{fit, no_changes}
use Rattle.gated_log.proofs.Chains.{gate_place}
use Rattle.gated_log.proofs.RecoveryFinds.{still_durable}
use Rattle.station_base.specs.declared.row.Row.{Row}
use Rattle.station_io.specs.Sink.{Outlet}
use Rattle.settings_file.specs.StationSettings.{StationSettings}
use Rattle.gated_log.specs.Layout.{slot_size}
use Rattle.weather_book.specs.declared.book.Book.{Book}
use Rattle.weather_book.specs.Book.{BookStandsFor}
use Rattle.packed_rows.specs.Rows.{slot_total}
use Rattle.weather_book.specs.Stands.{StandsToReadOn}
use Rattle.weather_reports.specs.Made.{WritesByReads}
use Rattle.weather_reports.specs.Reported.{AsFailed}
use Rattle.weather_reports.specs.declared.end.ReportEnd.{ReportEnd}
use Rattle.station_session.specs.declared.session.Session.{Session}
use Rattle.station_session.specs.Session.{book_of}
use Rattle.replay_laws.specs.Keeping.{Archive}
use Rattle.round_play.specs.Resting.{AtRest, SessionGoesOn, HasLeft}
use Rattle.round_play.proofs.RecoveryChanges.{by_changes, fails_by_changes}
use Rattle.weather_book.proofs.BookOnDisk.{can_be_read, stands_stays}
use Rattle.round_play.proofs.Opened.{synced_seen}
use Rattle.schedule_replay.specs.Writing.{IsOnlyRead, IsReadable}

-- reads within the length leave the state as it is, and none fails
reads_done : (s t : StoppingState) (len : ℕ) (calls : List DiskCall) → s.stopped ≡ false → s.inner.fails_at ≡ 0 → len ≤ s.inner.size → reads_within len calls → after_stops (Some s) calls ≡ Some t
    → (t ≡ s) × (any_failed calls ≡ false)
reads_done s t len calls goes sure le within is =
    let none = no_changes len calls within in
    let same : Some s ≡ Some t = ap (λ (cs : List DiskCall). after_stops (Some s) cs) (sym none) ∙ (by_changes calls s t sure is).state in (
      sym (same_Some s t same),
      fails_by_changes len calls s t goes sure le (fit len calls within) is ∙ ap any_failed none,
    )

module _ (old new : Stopping MemDisk) (state : stopping_state_of new ≡ stopping_state_of old) (stays : Stays stopping_medium old new) where
  still_rests : (openings : ℕ) (a : Archive) → AtRest openings a old → AtRest openings a new
  still_rests openings a at =
      let durable = still_durable stopping_medium old new 0 stays at.durable in let seen = stays.reads ∙ at.seen in
      record {
        rests = record {
          goes = ap (λ (s : StoppingState). s.stopped) state ∙ at.rests.goes;
          sure = ap (λ (s : StoppingState). s.inner.fails_at) state ∙ at.rests.sure;
          size = ap (λ (s : StoppingState). s.inner.size) state ∙ at.rests.size;
          synced = ap (λ (s : StoppingState). s.inner.synced_size) state ∙ at.rests.synced;
          changes_are = stays.at ∙ at.rests.changes_are;
        };
        unarmed = ap (λ (s : StoppingState). s.armed) state ∙ at.unarmed;
        image = at.image;
        seen = seen;
        synced = synced_seen new at.image durable seen;
        length_is = at.length_is;
        rows = at.rows;
        durable = durable;
        left = λ c now. at.left c (subst (λ (m : ℕ). stopping_medium.left old m c) stays.at (stays.nothing_else (stopping_medium.moment new) c now));
        room = subst (HasLeft openings a) (sym state) at.room;
      }

  only_read : IsOnlyRead old new
  only_read = record {
    state = state;
    stays = stays;
    rests = still_rests;
    goes_on = λ settings rows session goes. record {
      stands = stands_stays stopping_medium (book_of session) old new rows goes.stands stays;
      settings_are = goes.settings_are;
      most = goes.most;
      fresh = goes.fresh;
    };
  }

-- the slots of the rows stand within the length
room_to_read : (disk : Stopping MemDisk) (session : Session) (settings : StationSettings) (rows : List Row) (openings : ℕ) (a : Archive) → AtRest openings a disk → SessionGoesOn settings rows session disk
    → slot_size * (slot_total rows + 1) ≤ (stopping_state_of disk).inner.size
room_to_read disk session settings rows openings a at goes =
    let log = goes.stands.log in let closed = log.rests.reads at.image at.seen in
    omega (arith, at.rests.size, at.length_is, log.count_is, gate_place log.before goes.stands.slots log.chain, ap length closed.1, length-append log.before (0 ∷ closed.0))

-- reads of its rows alone leave a disk at rest as it is, and none fails
reads_at_rest : (old new : Stopping MemDisk) (session : Session) (settings : StationSettings) (rows : List Row) (openings : ℕ) (a : Archive) (failed : Bool) → AtRest openings a old → SessionGoesOn settings rows session old
    → Stays stopping_medium old new → Looked stopping_medium (slot_size * (slot_total rows + 1)) failed old new → (failed ≡ false) × IsOnlyRead old new
reads_at_rest old new session settings rows openings a failed at goes stays looked =
    let room = room_to_read old session settings rows openings a at goes in
    let done = reads_done (stopping_state_of old) (stopping_state_of new) (slot_size * (slot_total rows + 1)) looked.calls at.rests.goes at.rests.sure room looked.within looked.by.state in
    (sym looked.fails ∙ done.1, only_read old new done.0 stays)

-- the same of the reads of a report, which meets no fault of the disk
pub report_reads : {K : Type 0} {outlet : Outlet K} {P : List Row → List ℕ → Type 0} {old new : Stopping MemDisk} {out out' : K}
    (session : Session) (book : Book) (end : ReportEnd) → IsReadable session old → book ≡ book_of session
    → WritesByReads outlet stopping_medium book P end old new out out' → IsOnlyRead old new × (end ≢ ReportEnd.DiskFault)
report_reads {old = old} {new = new} session book end readable is writes =
    let reads = writes.went readable.rows (subst (λ (b : Book). BookStandsFor b readable.rows) (sym is) readable.goes_on.stands.stands_for) in
    let done = reads_at_rest old new session readable.settings readable.rows readable.openings readable.archive reads.failed readable.rests readable.goes_on writes.stays reads.looked in
    (done.1, λ fault. let failed : reads.failed ≡ true = subst (λ (e : ReportEnd). AsFailed e reads.failed) fault reads.by_end in let not_so = done.0 in cc)

-- the rows of a session that goes on can be read of the book
pub rows_readable : (disk : Stopping MemDisk) (session : Session) (book : Book) (settings : StationSettings) (rows : List Row) → book ≡ book_of session → SessionGoesOn settings rows session disk
    → StandsToReadOn stopping_medium book disk rows
rows_readable disk session book settings rows is goes =
    subst (λ (b : Book). StandsToReadOn stopping_medium b disk rows) (sym is) (can_be_read stopping_medium (book_of session) disk rows goes.stands)
