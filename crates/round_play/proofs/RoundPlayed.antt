-- A session's round over a modelled line and a disk that stops is a round of a run.
use Rattle.std.proofs.Common.{◌≡◌, ◌≢◌, ℕ, ◌+◌, Bool, true, false, ◌⊎◌, inl, inr, List, [], ◌∷◌, ◌++◌, length, Option, Some, None, refl, sym, ◌∙◌, ap, subst, arith, length-append}
use Rattle.std.proofs.lemmas.Option.{same_Some}
use Rattle.causes.specs.Cause.{Rose}
use Rattle.station_base.specs.declared.row.Row.{Row}
use Rattle.settings_file.specs.StationSettings.{StationSettings}
use Rattle.causes.specs.declared.stored.Stored.{Stored}
use Rattle.causes.specs.declared.stored.Stored.TheVariants as stored
use Rattle.disk_model.specs.Disk.{Stays}
use Rattle.disk_model.specs.StoppingState.{StoppingState}
use Rattle.disk_model.specs.Stopping.{stopping_medium, stopping_state_of}
use Rattle.disk_model.specs.declared.mem_disk.MemDisk.{MemDisk}
use Rattle.disk_model.specs.declared.stopping.Stopping.{Stopping}
use Rattle.gated_log.proofs.RecoveryFinds.{still_durable}
use Rattle.packed_rows.specs.Rows.{slot_total}
use Rattle.packed_rows.specs.Rising.{last_row_stamp}
use Rattle.weather_book.specs.Stands.{HasRows, StandsOn}
use Rattle.weather_book.proofs.BookOnDisk.{read_has, stands_stays}
use Rattle.dmpaft_pump.specs.Keeper.{Handed}
use Rattle.station_session.specs.declared.report.Report.{Report}
use Rattle.station_session.specs.declared.session.Session.{Session}
use Rattle.station_session.specs.declared.round_end.RoundEnd.{RoundEnd}
use Rattle.station_session.specs.declared.round_end.RoundEnd.TheVariants as round_end
use Rattle.station_session.specs.Session.{SessionStandsFor, book_of, held, session_settings}
use Rattle.station_session.specs.Attempts.{MadeAttempt, all_said, all_batches, page_count, skip_count}
use Rattle.station_session.specs.Batches.{Fit, ChangesAreBegun, all_records, changes_for, kept_count, kept_records, last_answer}
use Rattle.station_session.specs.Holding.{rows_after_batches}
use Rattle.station_session.specs.Records.{stored_rows}
use Rattle.station_session.specs.Round.{AnswersRound, LeavesRound, ServesRound, answer_by, round_host, stale_with}
use Rattle.station_session.proofs.Stamps.{same_count}
use Rattle.station_sim.specs.declared.sim.Sim.{Sim}
use Rattle.station_sim.specs.declared.unseen.Unseen.{Unseen}
use Rattle.schedule_file.specs.declared.fates.Fates as code
use Rattle.schedule_file.specs.Fates.{FatesByNumber}
use Rattle.station_sim.specs.Line.{Line, waited}
use Rattle.schedule_file.specs.Lists.{fates_of, entry_of, late_in, records_left_in, mids_in}
use Rattle.station_sim.specs.Standing.{LineBehind, SimStandsFor}
use Rattle.station_sim.specs.Talk.{started}
use Rattle.station_sim.specs.Telling.{sim_traffic}
use Rattle.replay_laws.specs.Keeping.{Archive}
use Rattle.replay_laws.specs.Round.{LineAttempt, Ending, finished, made_attempts}
use Rattle.replay_laws.specs.Replay.{Item, Rounded, Stage, IsUnseenRound, after_round, is_stop, left_by_round}
use Rattle.replay_laws.specs.Room.{AreFew}
use Rattle.schedule_file.specs.declared.schedule.step.Stop.{Stop}
use Rattle.replay_laws.specs.Session.{AreRound, RoundEndsAs, IsKnown, NotPast, RoundStopsAt, archive_left_after}
use Rattle.replay_laws.specs.Stopped.{DiskHasRoom, IsStop, armed_by}
use Rattle.replay_laws.proofs.Bridge.{session_law}
use Rattle.replay_laws.proofs.PassedStops.{calls_keep, chain_takes, round_passes}
use Rattle.replay_laws.proofs.RowsOfRounds.{all_read, kept_read, rows_after, total_few}
use Rattle.replay_laws.proofs.Stops.{chain_stopped, has_armed, has_length, round_goes, round_stops, round_sure, slots_is, changes_after, total_grows}
use Rattle.round_play.proofs.Opened.{left_by, synced_seen}
use Rattle.round_play.specs.Opening.{stopping_limits}
use Rattle.round_play.specs.Played.{IsPlayedOut, MayPlay, PlaysBy}
use Rattle.round_play.specs.Resting.{AtRest, SessionGoesOn}
use Rattle.round_play.specs.Restarting.{IsBegunAgain, IsDisarmed, armed_with}

-- the same entries are the same fates
pub same_fates : (a b : code.Fates) → a.host.entries ≡ b.host.entries → a.replies.entries ≡ b.replies.entries → a.lates.entries ≡ b.lates.entries → a.mids.items ≡ b.mids.items → fates_of a ≡ fates_of b
same_fates a b h r l m =
    ap (λ x. record { host = λ n. entry_of n x; reply = λ n. entry_of n a.replies.entries; late = late_in a.lates.entries; mids = mids_in a.mids.items }) h
    ∙ ap (λ x. record { host = λ n. entry_of n b.host.entries; reply = λ n. entry_of n x; late = late_in a.lates.entries; mids = mids_in a.mids.items }) r
    ∙ ap (λ x. record { host = λ n. entry_of n b.host.entries; reply = λ n. entry_of n b.replies.entries; late = late_in x; mids = mids_in a.mids.items }) l
    ∙ ap (λ x. record { host = λ n. entry_of n b.host.entries; reply = λ n. entry_of n b.replies.entries; late = late_in b.lates.entries; mids = mids_in x }) m

armed_is : (stop : Option Stop) (s : StoppingState) → s.armed ≡ 0 → (armed_with stop s).armed ≡ armed_by stop
armed_is None s none = none
armed_is (Some k) s none = refl

inner_stays : (stop : Option Stop) (s : StoppingState) → (armed_with stop s).inner ≡ s.inner
inner_stays None s = refl
inner_stays (Some k) s = refl

goes_stays : (stop : Option Stop) (s : StoppingState) → (armed_with stop s).stopped ≡ s.stopped
goes_stays None s = refl
goes_stays (Some k) s = refl

-- What the code of a round says of each of its steps.
pub record Steps (fates : code.Fates) (stop : Option Stop) (s0 s2 : Session) (l0 l1 l2 l3 : Sim) (d0 d1 d2 d3 : Stopping MemDisk) (end : RoundEnd) (report : Report) (harmed : ℕ) (unseen : Option Unseen) : Type 0 where
  pub starts : (w : Line) → SimStandsFor l0 w → SimStandsFor l1 (started w)
  pub fates_are : fates_of l1.fates ≡ fates_of fates
  pub mids_are : l1.fates.mids.items ≡ fates.mids.items
  pub said_before : l1.talk.items ≡ l0.talk.items
  pub armed : stopping_state_of d1 ≡ armed_with stop (stopping_state_of d0)
  pub stays : Stays stopping_medium d0 d1
  pub is_a_stop : IsStop stop
  pub serves : (rows : List Row) → SessionStandsFor s0 rows → ServesRound sim_traffic stopping_medium rows end (round_host s0 l1 d1) (round_host s2 l2 d2) report
  pub before : report.rows_before ≡ held s0
  pub answers : AnswersRound sim_traffic stopping_medium end (round_host s0 l1 d1) (round_host s2 l2 d2) report.attempts
  pub leaves : LeavesRound stopping_medium end (round_host s0 l1 d1) (round_host s2 l2 d2) report.attempts
  pub memory : end ≢ round_end.OutOfMemory
  pub went_on : (stopping_state_of d2).stopped ≡ false → IsDisarmed d2 d3
  pub stopped : (stopping_state_of d2).stopped ≡ true → IsBegunAgain d2 d3
  pub harmed_is : (w : Line) → SimStandsFor l2 w → harmed ≡ w.harmed
  pub unseen_is : (w : Line) → SimStandsFor l2 w → unseen ≡ w.unseen
  pub finishes : (w : Line) → SimStandsFor l2 w → SimStandsFor l3 (waited (records_left_in l2.fates.mids.items w.messages) w)
  pub said_after : l3.talk.items ≡ l2.talk.items

answers_fault : (e : RoundEnd) → answer_by e ≡ stored.DiskFault → e ≡ round_end.DiskFault
answers_fault round_end.DiskFault h = refl
answers_fault round_end.Done h = absurd cc
answers_fault round_end.GaveUp h = absurd cc
answers_fault round_end.LinkFault h = absurd cc
answers_fault round_end.Flood h = absurd cc
answers_fault round_end.ArchiveFull h = absurd cc
answers_fault round_end.Stale h = absurd cc
answers_fault round_end.OutOfMemory h = absurd cc

-- a round that did not end by a disk fault leaves a session as stale as it was
stale_as : (e : RoundEnd) (stale : Bool) → e ≢ round_end.DiskFault → stale_with e stale ≡ stale
stale_as round_end.DiskFault stale h = absurd (h refl)
stale_as round_end.Done stale h = refl
stale_as round_end.GaveUp stale h = refl
stale_as round_end.LinkFault stale h = refl
stale_as round_end.Flood stale h = refl
stale_as round_end.ArchiveFull stale h = refl
stale_as round_end.Stale stale h = refl
stale_as round_end.OutOfMemory stale h = refl

known_end : (e : RoundEnd) → e ≢ round_end.LinkFault → e ≢ round_end.Flood → e ≢ round_end.Stale → e ≢ round_end.OutOfMemory → IsKnown e
known_end round_end.DiskFault l f s o = tt
known_end round_end.Done l f s o = tt
known_end round_end.GaveUp l f s o = tt
known_end round_end.LinkFault l f s o = absurd (l refl)
known_end round_end.Flood l f s o = absurd (f refl)
known_end round_end.ArchiveFull l f s o = tt
known_end round_end.Stale l f s o = absurd (s refl)
known_end round_end.OutOfMemory l f s o = absurd (o refl)

line_after : (t : Bool) (s : Stage) (a : Archive) (w : Line) → (after_round t s a w).line ≡ w
line_after true s a w = refl
line_after false s a w = refl

archive_after : (t : Bool) (s : Stage) (a : Archive) (w : Line) → (after_round t s a w).archive ≡ a
archive_after true s a w = refl
archive_after false s a w = refl

tried_count : (ts : List LineAttempt) → length (made_attempts ts) ≡ length ts
tried_count [] = refl
tried_count (t ∷ ts) = omega (arith, tried_count ts)

module _ (fates : code.Fates) (stop : Option Stop) (s0 s2 : Session) (l0 l1 l2 l3 : Sim) (d0 d1 d2 d3 : Stopping MemDisk) (end : RoundEnd) (report : Report) (harmed : ℕ) (unseen : Option Unseen)
    (c : Steps fates stop s0 s2 l0 l1 l2 l3 d0 d1 d2 d3 end report harmed unseen) (records openings : ℕ) (s : Stage) (may : MayPlay records (session_settings s0) (fates_of fates) openings s (round_host s0 l0 d0)) where
  sv : ServesRound sim_traffic stopping_medium s.archive.rows end (round_host s0 l1 d1) (round_host s2 l2 d2) report
  sv = c.serves s.archive.rows may.session.stands.stands_for

  abbrev batches_given : List MadeAttempt → Handed
  batches_given ts = all_batches (last_row_stamp s.archive.rows) ts

  went : LineBehind (fates_of fates) (all_said sv.tries) (started s.line) l2
  went =
      subst (λ (g : FatesByNumber). LineBehind g (all_said sv.tries) (started s.line) l2) c.fates_are
      (sv.adds.went.line (started s.line) (c.starts s.line may.line))

  fit : Fit (session_settings s0).most (length s.archive.rows) (batches_given sv.tries)
  fit = subst (λ (m : ℕ). Fit m (length s.archive.rows) (batches_given sv.tries)) may.session.most sv.stores.fit

  armed : (stopping_state_of d1).armed ≡ armed_by stop
  armed = ap (λ (x : StoppingState). x.armed) c.armed ∙ armed_is stop (stopping_state_of d0) may.disk.unarmed

  inner_same : (stopping_state_of d1).inner ≡ (stopping_state_of d0).inner
  inner_same = ap (λ (x : StoppingState). x.inner) c.armed ∙ inner_stays stop (stopping_state_of d0)

  passes : NotPast stop (kept_count (batches_given sv.tries))
  passes = round_passes (session_settings s0) s.archive.rows sv.tries stop sv.stores.failed (stopping_state_of d1) (stopping_state_of d2) c.is_a_stop armed sv.stores.went_on.state

  not_link : end ≢ round_end.LinkFault
  not_link is = absurd (let z : Rose 0 0 = c.answers.fault.rose is in omega (arith, z))

  not_stale : end ≢ round_end.Stale
  not_stale is = let z = c.answers.stale.0 is in let y : true ≡ false = sym z ∙ may.session.fresh in cc

  -- a round with an unseen delivery
  broken : (which : Unseen) → went.line.unseen ≡ Some which → IsUnseenRound (session_settings s0) (fates_of fates) stop s (Item.Unsaid (s.rounds + 1) which)
  broken which un = record { tried = sv.tries; end = end; line = went.line; attempts = sv.attempts; talks = went.talks; fits = fit; not_past = passes; ends = by end refl; which = which; unseen = un; is = refl }
    where
      known : (e : RoundEnd) → end ≡ e → IsKnown e → IsKnown end ⊎ (end ≡ round_end.Flood)
      known e is k = inl (subst IsKnown (sym is) k)

      by : (e : RoundEnd) → end ≡ e → IsKnown end ⊎ (end ≡ round_end.Flood)
      by round_end.Done e = known round_end.Done e tt
      by round_end.GaveUp e = known round_end.GaveUp e tt
      by round_end.ArchiveFull e = known round_end.ArchiveFull e tt
      by round_end.DiskFault e = known round_end.DiskFault e tt
      by round_end.Flood e = inr e
      by round_end.LinkFault e = absurd (not_link e)
      by round_end.Stale e = absurd (not_stale e)
      by round_end.OutOfMemory e = absurd (c.memory e)

  -- the room that all its batches need
  has_room : AreFew records s.archive.rows (batches_given sv.tries) → DiskHasRoom (session_settings s0) (armed_by stop) (stopping_state_of d1).pick s.archive (batches_given sv.tries) (stopping_state_of d1)
  has_room few =
      let all = stored_rows (session_settings s0) (all_records (batches_given sv.tries)) in
      let count = same_count (session_settings s0) (all_records (batches_given sv.tries)) (all_read (last_row_stamp s.archive.rows) sv.tries) in
      let long = length-append s.archive.rows all in
      let new_slots = slots_is (s.archive.rows ++ all) in
      let old_slots = slots_is s.archive.rows in
      let most = total_few (s.archive.rows ++ all) in
      let grows = total_grows s.archive.rows all in
      let f = few.few in
      let e = few.each in
      let i : (stopping_state_of d1).inner ≡ (stopping_state_of d0).inner = inner_same in
      let changes_same = ap (λ x. x.changes) i in
      let bytes_same = ap (λ x. x.bytes) i in
      let capacity_same = ap (λ x. x.limits.capacity) i in
      record {
        goes = ap (λ (x : StoppingState). x.stopped) c.armed ∙ goes_stays stop (stopping_state_of d0) ∙ may.disk.rests.goes;
        armed_is = armed;
        pick_is = refl;
        sure = ap (λ x. x.fails_at) i ∙ may.disk.rests.sure;
        size = ap (λ x. x.size) i ∙ may.disk.rests.size;
        synced = ap (λ x. x.synced_size) i ∙ may.disk.rests.synced;
        capacity = omega (arith, count, long, new_slots, most, f, capacity_same, may.room.capacity);
        changes = omega (arith, f, e, changes_same, may.disk.room.changes, may.changes, may.room.changes);
        bytes = omega (arith, count, long, new_slots, old_slots, most, grows, f, e, bytes_same, may.disk.room.bytes, may.room.bytes, may.few);
      }

  -- the line as the round leaves it
  finished_line : SimStandsFor l3 (finished (records_left_in fates.mids.items) went.line)
  finished_line =
      subst (λ x. SimStandsFor l3 (waited (records_left_in x went.line.messages) went.line)) (ap (λ x. x.items) sv.adds.went.mids ∙ c.mids_are) (c.finishes went.line went.stands)

  started_rows : StandsOn stopping_medium (book_of s0) d1 s.archive.rows
  started_rows = stands_stays stopping_medium (book_of s0) d0 d1 s.archive.rows may.session.stands c.stays

  begun_changes : stopping_medium.moment d1 ≡ s.archive.changes
  begun_changes = c.stays.at ∙ may.disk.rests.changes_are

  -- a round without unseen delivery, its disk and its session being as it leaves them
  played_out : (y : AreRound (session_settings s0) (fates_of fates) stop s.archive (started s.line) sv.tries end went.line) → RoundStopsAt stop end (kept_count (batches_given sv.tries)) → went.line.unseen ≡ None → AtRest openings (left_by_round (session_settings s0) stop s sv.tries) d3 → stopping_limits d3 ≡ stopping_limits d0
      → (is_stop y.ending ≡ false → SessionGoesOn (session_settings s0) (left_by_round (session_settings s0) stop s sv.tries).rows s2 d3)
      → IsPlayedOut (session_settings s0) (fates_of fates) (records_left_in fates.mids.items) stop openings s (round_host s0 l0 d0) (record { end = end; report = report; harmed = harmed; unseen = unseen }) (round_host s2 l3 d3)
  played_out y at un rest limits goes =
      let fin = finished (records_left_in fates.mids.items) went.line in
      let r : Rounded = record { number = s.rounds + 1; tried = y.tried; end = y.ending; before = s.archive.rows; kept = s.archive.rows ++ stored_rows (session_settings s0) (kept_records (batches_given sv.tries)); rows = (left_by_round (session_settings s0) stop s sv.tries).rows; harmed = went.line.harmed; written = s.written } in
      let arc = archive_after (is_stop y.ending) s (left_by_round (session_settings s0) stop s sv.tries) fin in
      let kept_rows = kept_read (batches_given sv.tries) (all_read (last_row_stamp s.archive.rows) sv.tries) in
      let count = same_count (session_settings s0) (kept_records (batches_given sv.tries)) kept_rows in
      let long = length-append s.archive.rows (stored_rows (session_settings s0) (kept_records (batches_given sv.tries))) in
      record {
        round = r;
        next = after_round (is_stop y.ending) s (left_by_round (session_settings s0) stop s sv.tries) fin;
        is_round = record { made = sv.tries; end = end; line = went.line; attempts = sv.attempts; fits = fit; stops = at; ends = y.ends; made_are = y.made; told = y.told; seen = un; is = refl; next = refl };
        tells = record {
          attempts = sv.made ∙ ap length (sym y.made) ∙ tried_count y.tried;
          pages = sv.tally.pages ∙ ap page_count (sym y.made);
          skipped = sv.tally.skipped ∙ ap skip_count (sym y.made);
          acked_are = omega (arith, sv.kept, c.before, may.session.stands.stands_for.held_is, count, long);
          harmed = c.harmed_is went.line went.stands;
          ends = y.ends;
        };
        said = c.said_after ∙ same_Some _ _ sv.adds.told ∙ ap (λ x. x ++ all_said sv.tries) c.said_before ∙ ap (λ x. l0.talk.items ++ all_said x) (sym y.made);
        line = subst (SimStandsFor l3) (sym (line_after (is_stop y.ending) s (left_by_round (session_settings s0) stop s sv.tries) fin)) finished_line;
        disk = subst (λ (x : Archive). AtRest openings x d3) (sym arc) rest;
        limits = limits;
        session = λ still. subst (λ (x : Archive). SessionGoesOn (session_settings s0) x.rows s2 d3) (sym arc) (goes still);
      }

  -- a round that met no disk fault
  went_on : went.line.unseen ≡ None → end ≢ round_end.DiskFault → IsKnown end → AreFew records s.archive.rows (batches_given sv.tries)
      → IsPlayedOut (session_settings s0) (fates_of fates) (records_left_in fates.mids.items) stop openings s (round_host s0 l0 d0) (record { end = end; report = report; harmed = harmed; unseen = unseen }) (round_host s2 l3 d3)
  went_on un none known few =
      let sure : last_answer (batches_given sv.tries) ≢ stored.DiskFault = λ z. none (answers_fault end (sym sv.answered ∙ z)) in
      let q = round_goes stopping_medium (session_settings s0) s.archive sv.tries end stop (stopping_state_of d1).pick d1 d2 (book_of s0) (book_of s2) report.marks.items (stopping_state_of d1) (stopping_state_of d2) none sure c.is_a_stop begun_changes sv.stores (λ failed h. h.state) (has_room few) in
      let y = session_law (session_settings s0) (fates_of fates) stop s.archive (started s.line) went.line sv.tries end sv.attempts fit went.talks known q.0 in
      let off = c.went_on q.1.goes in
      let on2 = sv.stores.stands sure started_rows in
      let rows_are = rows_after (session_settings s0) stop 0 s.archive (batches_given sv.tries) sure in
      let has = read_has stopping_medium (book_of s2) d2 (rows_after_batches (session_settings s0) s.archive.rows (batches_given sv.tries)) d2.disk.bytes.items on2 refl in
      let takes = chain_takes (session_settings s0) s.archive.rows (batches_given sv.tries) sv.stores.failed (stopping_state_of d1) (stopping_state_of d2) sure sv.stores.went_on.state in
      let keeps = calls_keep (changes_for (session_settings s0) sv.stores.failed s.archive.rows (batches_given sv.tries)) (stopping_state_of d1) (stopping_state_of d2) sv.stores.went_on.state in
      let more = changes_after (session_settings s0) stop 0 s.archive (batches_given sv.tries) sure in
      let limits_are : stopping_limits d3 ≡ stopping_limits d0 = ap (λ (z : StoppingState). z.inner.limits) off.state ∙ keeps.limits ∙ ap (λ z. z.limits) inner_same in
      let count = same_count (session_settings s0) (kept_records (batches_given sv.tries)) (kept_read (batches_given sv.tries) (all_read (last_row_stamp s.archive.rows) sv.tries)) in
      let long = ap length rows_are ∙ length-append s.archive.rows (stored_rows (session_settings s0) (kept_records (batches_given sv.tries))) in
      let slots_new = slots_is (archive_left_after (session_settings s0) stop 0 s.archive (batches_given sv.tries)).rows ∙ ap slot_total rows_are in
      let slots_old = slots_is s.archive.rows in
      let changes_same = ap (λ z. z.changes) inner_same in
      let bytes_same = ap (λ z. z.bytes) inner_same in
      let at_changes = ap (λ (z : StoppingState). z.inner.changes) off.state in
      let at_bytes = ap (λ (z : StoppingState). z.inner.bytes) off.state in
      let limit_changes = ap (λ z. z.changes) limits_are in
      let limit_bytes = ap (λ z. z.bytes) limits_are in
      let rest : AtRest openings (archive_left_after (session_settings s0) stop 0 s.archive (batches_given sv.tries)) d3 = record {
        rests = record {
          goes = ap (λ (z : StoppingState). z.stopped) off.state ∙ q.1.goes;
          sure = ap (λ (z : StoppingState). z.inner.fails_at) off.state ∙ q.1.sure;
          size = ap (λ (z : StoppingState). z.inner.size) off.state ∙ q.1.size;
          synced = ap (λ (z : StoppingState). z.inner.synced_size) off.state ∙ q.1.synced;
          changes_are = off.stays.at ∙ q.1.changes_are;
        };
        unarmed = ap (λ (z : StoppingState). z.armed) off.state;
        image = d2.disk.bytes.items;
        seen = off.stays.reads;
        length_is = q.1.size;
        rows = subst (λ (z : List Row). HasRows z d2.disk.bytes.items) (sym rows_are) has;
        durable = still_durable stopping_medium d2 d3 0 off.stays on2.log.rests.durable;
        synced = synced_seen d3 d2.disk.bytes.items (still_durable stopping_medium d2 d3 0 off.stays on2.log.rests.durable) off.stays.reads;
        left = left_by d3 (archive_left_after (session_settings s0) stop 0 s.archive (batches_given sv.tries)).rows d2.disk.bytes.items (still_durable stopping_medium d2 d3 0 off.stays on2.log.rests.durable) off.stays.reads (subst (λ (z : List Row). HasRows z d2.disk.bytes.items) (sym rows_are) has);
        room = record {
          changes = omega (arith, limit_changes, at_changes, takes.changes, changes_same, may.disk.room.changes, more);
          bytes = omega (arith, limit_bytes, at_bytes, takes.bytes, bytes_same, may.disk.room.bytes, slots_new, slots_old, long, count, few.kept);
        };
      } in
      played_out y q.0 un rest limits_are
      (λ still. record {
        stands = subst (StandsOn stopping_medium (book_of s2) d3) (sym rows_are) (stands_stays stopping_medium (book_of s2) d2 d3 (rows_after_batches (session_settings s0) s.archive.rows (batches_given sv.tries)) on2 off.stays);
        settings_are = c.leaves.settings;
        most = c.leaves.most ∙ may.session.most;
        fresh = c.leaves.marked ∙ stale_as end _ none ∙ may.session.fresh;
      })

  -- a round that a stop ended
  stopped_at : (k : Stop) → stop ≡ Some k → went.line.unseen ≡ None → end ≡ round_end.DiskFault → AreFew records s.archive.rows (batches_given sv.tries)
      → IsPlayedOut (session_settings s0) (fates_of fates) (records_left_in fates.mids.items) stop openings s (round_host s0 l0 d0) (record { end = end; report = report; harmed = harmed; unseen = unseen }) (round_host s2 l3 d3)
  stopped_at k stop_is un is few =
      let fault : last_answer (batches_given sv.tries) ≡ stored.DiskFault = sv.answered ∙ ap answer_by is in
      let begun = subst (λ (x : Stored). ChangesAreBegun x sv.stores.failed) fault sv.stores.begun in
      let room0 = has_room few in
      let pick_is : (stopping_state_of d1).pick ≡ k.pick = ap (λ (x : StoppingState). x.pick) c.armed ∙ ap (λ (z : Option Stop). (armed_with z (stopping_state_of d0)).pick) stop_is in
      let room : DiskHasRoom (session_settings s0) k.change k.pick s.archive (batches_given sv.tries) (stopping_state_of d1)
      = subst (λ (n : ℕ). DiskHasRoom (session_settings s0) n k.pick s.archive (batches_given sv.tries) (stopping_state_of d1)) (ap armed_by stop_is)
      (subst (λ (n : ℕ). DiskHasRoom (session_settings s0) (armed_by stop) n s.archive (batches_given sv.tries) (stopping_state_of d1)) pick_is room0) in
      let cut = chain_stopped (session_settings s0) s.archive (batches_given sv.tries) sv.stores.failed (stopping_state_of d1) (stopping_state_of d2) k.change k.pick (stopping_state_of d1).inner.limits.capacity
      fault begun.0 begun.1
      (has_armed (session_settings s0) k.change k.pick s.archive (batches_given sv.tries) (stopping_state_of d1) room)
      (has_length (session_settings s0) k.change k.pick s.archive (batches_given sv.tries) (stopping_state_of d1) room) sv.stores.went_on.state in
      let again = c.stopped cut.halted in
      let q = round_stops stopping_medium (session_settings s0) s.archive sv.tries k d1 d2 (book_of s0) (book_of s2) report.marks.items (stopping_state_of d1) (stopping_state_of d2) again.image fault begun_changes sv.stores started_rows (λ failed h. h.state) room again.left again.restart in
      let stops_at : RoundStopsAt stop end (kept_count (batches_given sv.tries))
      = subst (λ (z : Option Stop). RoundStopsAt z end (kept_count (batches_given sv.tries))) (sym stop_is) (subst (λ (e : RoundEnd). RoundStopsAt (Some k) e (kept_count (batches_given sv.tries))) (sym is) q.0) in
      let y = session_law (session_settings s0) (fates_of fates) stop s.archive (started s.line) went.line sv.tries end sv.attempts fit went.talks (subst IsKnown (sym is) tt) stops_at in
      let left_is : left_by_round (session_settings s0) stop s sv.tries ≡ archive_left_after (session_settings s0) (Some k) 0 s.archive (batches_given sv.tries) = ap (λ (z : Option Stop). archive_left_after (session_settings s0) z 0 s.archive (batches_given sv.tries)) stop_is in
      let ends : RoundEndsAs (Some k) round_end.DiskFault y.ending = subst (λ (e : RoundEnd). RoundEndsAs (Some k) e y.ending) is (subst (λ (z : Option Stop). RoundEndsAs z end y.ending) stop_is y.ends) in
      let keeps = calls_keep (changes_for (session_settings s0) sv.stores.failed s.archive.rows (batches_given sv.tries)) (stopping_state_of d1) (stopping_state_of d2) sv.stores.went_on.state in
      let limits_are : stopping_limits d3 ≡ stopping_limits d0 = ap (λ (z : StoppingState). z.inner.limits) again.state ∙ keeps.limits ∙ ap (λ z. z.limits) inner_same in
      let at_changes = ap (λ (z : StoppingState). z.inner.changes) again.state in
      let at_bytes = ap (λ (z : StoppingState). z.inner.bytes) again.state in
      let limits_same = ap (λ (z : StoppingState). z.inner.limits) again.state in
      let rest : AtRest openings (archive_left_after (session_settings s0) (Some k) 0 s.archive (batches_given sv.tries)) d3 = record {
        rests = record {
          goes = ap (λ (z : StoppingState). z.stopped) again.state;
          sure = ap (λ (z : StoppingState). z.inner.fails_at) again.state ∙ keeps.sure room0.sure;
          size = ap (λ (z : StoppingState). z.inner.size) again.state ∙ q.1.size;
          synced = ap (λ (z : StoppingState). z.inner.synced_size) again.state ∙ q.1.size;
          changes_are = again.moment ∙ q.1.changes_are;
        };
        unarmed = ap (λ (z : StoppingState). z.armed) again.state;
        image = again.image;
        seen = again.seen;
        length_is = q.1.size;
        rows = q.1.rows;
        durable = again.durable;
        synced = synced_seen d3 again.image again.durable again.seen;
        left = left_by d3 (archive_left_after (session_settings s0) (Some k) 0 s.archive (batches_given sv.tries)).rows again.image again.durable again.seen q.1.rows;
        room = record {
          changes = omega (arith, at_changes, ap (λ z. z.changes) limits_same);
          bytes = omega (arith, at_bytes, ap (λ z. z.bytes) limits_same);
        };
      } in
      played_out y stops_at un (subst (λ (z : Archive). AtRest openings z d3) (sym left_is) rest) limits_are
      (λ still. absurd (let z : is_stop (Ending.Stopped k.change) ≡ false = ap is_stop (sym ends) ∙ still in cc))

  -- a round of whichever end
  plays_out : went.line.unseen ≡ None → IsPlayedOut (session_settings s0) (fates_of fates) (records_left_in fates.mids.items) stop openings s (round_host s0 l0 d0) (record { end = end; report = report; harmed = harmed; unseen = unseen }) (round_host s2 l3 d3)
  plays_out un = by end refl
    where
      counted : (end ≢ round_end.Flood) × AreFew records s.archive.rows (batches_given sv.tries)
      counted = may.counted went.line sv.tries end sv.attempts fit went.talks not_link c.memory not_stale un

      go : end ≢ round_end.DiskFault → IsPlayedOut (session_settings s0) (fates_of fates) (records_left_in fates.mids.items) stop openings s (round_host s0 l0 d0) (record { end = end; report = report; harmed = harmed; unseen = unseen }) (round_host s2 l3 d3)
      go none = went_on un none (known_end end not_link counted.0 not_stale c.memory) counted.1

      at_stop : (k : Option Stop) → stop ≡ k → end ≡ round_end.DiskFault → IsPlayedOut (session_settings s0) (fates_of fates) (records_left_in fates.mids.items) stop openings s (round_host s0 l0 d0) (record { end = end; report = report; harmed = harmed; unseen = unseen }) (round_host s2 l3 d3)
      at_stop None none is =
          absurd (round_sure stopping_medium (session_settings s0) s.archive sv.tries (stopping_state_of d1).pick d1 d2 (book_of s0) (book_of s2) report.marks.items (stopping_state_of d1) (stopping_state_of d2) sv.stores (λ failed h. h.state)
          (subst (λ (n : ℕ). DiskHasRoom (session_settings s0) n (stopping_state_of d1).pick s.archive (batches_given sv.tries) (stopping_state_of d1)) (ap armed_by none) (has_room counted.1)) (sv.answered ∙ ap answer_by is))
      at_stop (Some k) some is = stopped_at k some un is counted.1

      by : (e : RoundEnd) → end ≡ e → IsPlayedOut (session_settings s0) (fates_of fates) (records_left_in fates.mids.items) stop openings s (round_host s0 l0 d0) (record { end = end; report = report; harmed = harmed; unseen = unseen }) (round_host s2 l3 d3)
      by round_end.DiskFault e = at_stop stop refl e
      by round_end.Done e = go (λ z. let y : round_end.Done ≡ round_end.DiskFault = sym e ∙ z in cc)
      by round_end.GaveUp e = go (λ z. let y : round_end.GaveUp ≡ round_end.DiskFault = sym e ∙ z in cc)
      by round_end.ArchiveFull e = go (λ z. let y : round_end.ArchiveFull ≡ round_end.DiskFault = sym e ∙ z in cc)
      by round_end.Flood e = absurd (counted.0 e)
      by round_end.LinkFault e = absurd (not_link e)
      by round_end.Stale e = absurd (not_stale e)
      by round_end.OutOfMemory e = absurd (c.memory e)

  pub plays_own : PlaysBy unseen (session_settings s0) (fates_of fates) (records_left_in fates.mids.items) stop openings s (round_host s0 l0 d0) (record { end = end; report = report; harmed = harmed; unseen = unseen }) (round_host s2 l3 d3)
  plays_own = subst (λ (o : Option Unseen). PlaysBy o (session_settings s0) (fates_of fates) (records_left_in fates.mids.items) stop openings s (round_host s0 l0 d0) (record { end = end; report = report; harmed = harmed; unseen = unseen }) (round_host s2 l3 d3)) (sym (c.unseen_is went.line went.stands)) (by went.line.unseen refl)
    where
      by : (o : Option Unseen) → went.line.unseen ≡ o → PlaysBy o (session_settings s0) (fates_of fates) (records_left_in fates.mids.items) stop openings s (round_host s0 l0 d0) (record { end = end; report = report; harmed = harmed; unseen = unseen }) (round_host s2 l3 d3)
      by None un = plays_out un
      by (Some which) un = broken which un

-- the same by the settings that the session was begun with
pub plays : (fates : code.Fates) (stop : Option Stop) (s0 s2 : Session) (l0 l1 l2 l3 : Sim) (d0 d1 d2 d3 : Stopping MemDisk) (end : RoundEnd) (report : Report) (harmed : ℕ) (unseen : Option Unseen)
    → Steps fates stop s0 s2 l0 l1 l2 l3 d0 d1 d2 d3 end report harmed unseen → (records openings : ℕ) (settings : StationSettings) (s : Stage) → MayPlay records settings (fates_of fates) openings s (round_host s0 l0 d0)
    → PlaysBy unseen settings (fates_of fates) (records_left_in fates.mids.items) stop openings s (round_host s0 l0 d0) (record { end = end; report = report; harmed = harmed; unseen = unseen }) (round_host s2 l3 d3)
plays fates stop s0 s2 l0 l1 l2 l3 d0 d1 d2 d3 end report harmed unseen c records openings settings s may =
    subst (λ (z : StationSettings). PlaysBy unseen z (fates_of fates) (records_left_in fates.mids.items) stop openings s (round_host s0 l0 d0) (record { end = end; report = report; harmed = harmed; unseen = unseen }) (round_host s2 l3 d3)) may.session.settings_are
    (plays_own fates stop s0 s2 l0 l1 l2 l3 d0 d1 d2 d3 end report harmed unseen c records openings s
    (subst (λ (z : StationSettings). MayPlay records z (fates_of fates) openings s (round_host s0 l0 d0)) (sym may.session.settings_are) may))
