-- What a round's attempts come to.
use Rattle.std.proofs.Common.{◌*◌, ◌≡◌, ℕ, ◌+◌, ◌<◌, ◌≤◌, Bool, false, inl, List, [], ◌++◌, length, refl, sym, ◌∙◌, ap, subst, arith, Option}
use Rattle.disk_model.specs.Disk.{BeginsChanges, Faults}
use Rattle.serial_link.specs.Traffic.{Traffic}
use Rattle.disk_model.specs.Medium.{Medium}
use Rattle.causes.specs.Cause.{RoseBy}
use Rattle.serial_link.proofs.GrownTalk.{adds_none}
use Rattle.wake_retry.specs.Parts.{settled_waits}
use Rattle.station_base.specs.CivilMinute.{CivilMinute}
use Rattle.station_base.specs.declared.row.Row.{Row}
use Rattle.settings_file.specs.StationSettings.{StationSettings}
use Rattle.weather_book.specs.declared.book.Book.{Book}
use Rattle.weather_book.specs.Book.{BookStandsFor, IsSameBook, len_of, last_stamp_of, most_rows_of, book_is_stale}
use Rattle.packed_rows.specs.Rising.{last_row_stamp}
use Rattle.weather_book.proofs.BookOnDisk.{same_stands}
use Rattle.causes.specs.declared.stored.Stored.{Stored}
use Rattle.causes.specs.declared.stored.Stored.TheVariants.{Done}
use Rattle.dmpaft_pump.specs.declared.outcome.Tally.{Tally}
use Rattle.dmpaft_pump.specs.Keeper.{Handed}
use Rattle.station_session.specs.declared.report.Mark.{Mark}
use Rattle.station_session.specs.declared.report.Report.{Report}
use Rattle.station_session.specs.declared.round_end.RoundEnd.{RoundEnd}
use Rattle.station_session.specs.declared.round_end.RoundEnd.TheVariants as round
use Rattle.station_session.specs.declared.session.Session.{Session}
use Rattle.station_session.specs.Attempts.{AreAttempts, EndsBefore, all_batches, most_attempts}
use Rattle.causes.specs.Stored.{stale_after}
use Rattle.station_session.specs.Batches.{kept_records, last_answer, Fit}
use Rattle.station_session.specs.Report.{rows_marked, marks_for, acked, IsNew}
use Rattle.station_session.specs.declared.limits.TheConstants.{MOST_BATCHES, MOST_CHANGES}
use Rattle.station_session.specs.Holding.{Holding, holding, Stores}
use Rattle.station_session.specs.Round.{IsTally, round_host, ServesRound, answer_by, stale_with}
use Rattle.station_session.specs.Acknowledged.{AcknowledgedAreMarked}
use Rattle.station_session.specs.AttemptsMade.{MakesAttempts}
use Rattle.station_session.proofs.StoredBatches.{stores_none, stores_all}
use Rattle.station_session.proofs.BookAfter.{chain_most, chain_faults, chain_begun, chain_moved, chain_stale, chain_never_stale, chain_rose}
use Rattle.station_session.proofs.Marked.{marked_for}
use Rattle.station_session.proofs.AcknowledgedMarks.{acknowledged_are_marked}
use Rattle.station_session.proofs.Ends.{last_by, answer_at, gave_up_quiets, batch_count}

answer_is : (end : RoundEnd) → (end ≡ round.Stale → ⊥) → answer_at end ≡ answer_by end
answer_is round.Done h = refl
answer_is round.GaveUp h = refl
answer_is round.LinkFault h = refl
answer_is round.DiskFault h = refl
answer_is round.Flood h = refl
answer_is round.ArchiveFull h = refl
answer_is round.Stale h = absurd (h refl)
answer_is round.OutOfMemory h = refl

none_by : (end : RoundEnd) → EndsBefore end → Done ≡ answer_by end
none_by round.Stale h = refl
none_by round.OutOfMemory h = refl
none_by round.Done h = absurd h
none_by round.GaveUp h = absurd h
none_by round.LinkFault h = absurd h
none_by round.DiskFault h = absurd h
none_by round.Flood h = absurd h
none_by round.ArchiveFull h = absurd h

pub stale_by : (end : RoundEnd) (b : Bool) → stale_after (answer_at end) b ≡ stale_with end b
stale_by round.Done b = refl
stale_by round.GaveUp b = refl
stale_by round.LinkFault b = refl
stale_by round.DiskFault b = refl
stale_by round.Flood b = refl
stale_by round.ArchiveFull b = refl
stale_by round.Stale b = refl
stale_by round.OutOfMemory b = refl

module _ {D : Type 0} (medium : Medium D) where
  -- what is stored behind a book is stored behind one that is the same
  stores_from : (settings : StationSettings) (old b : Book) (disk : D) (marks : List Mark) (rows : List Row) (ss : Handed) (l : Holding D) → IsSameBook old b → marks ≡ []
      → Stores medium settings rows ss (holding b disk marks) l → Stores medium settings rows ss (holding old disk []) l
  stores_from settings old b disk marks rows ss l same none x = record {
    fit = subst (λ (n : ℕ). Fit n (length rows) ss) same.most x.fit;
    stands_for = x.stands_for;
    failed = x.failed;
    begun = x.begun;
    moved = x.moved;
    went_on = x.went_on;
    noted = x.noted ∙ ap (λ (m : List Mark). m ++ marks_for (medium.moment disk) (length rows) ss) none;
    images = λ st. x.images (same_stands medium old b disk rows same st);
    gate = λ e st. x.gate e (same_stands medium old b disk rows same st);
    marked = λ st mk. x.marked (same_stands medium old b disk rows same st) (subst (λ (m : List Mark). Rattle.station_session.specs.Marks.MarksHold medium disk rows m) (sym none) tt);
    stands = λ ne st. x.stands ne (same_stands medium old b disk rows same st);
    still = λ e st. x.still e (same_stands medium old b disk rows same st);
  }

module _ {L D : Type 0} {traffic : Traffic L} {medium : Medium D} where
  module _ {old : Session} {b b' : Book} {link link' : L} {disk disk' : D} {marks : List Mark} {end : RoundEnd} (report : Report)
      (same : IsSameBook old.book b) (fresh : book_is_stale old.book ≡ false) (none : marks ≡ []) (some : 0 < report.attempts)
      (made : MakesAttempts traffic medium old.settings end (holding b disk marks) link (holding b' disk' report.marks.items) link' report.attempts report.tally report.troubles.items) where
    last : last_answer (all_batches (last_stamp_of b) made.tries) ≡ answer_at end
    last = last_by (last_stamp_of b) made.tries end (omega (arith, some, made.count)) made.attempts

    stores : (rows : List Row) → BookStandsFor old.book rows → Stores medium old.settings rows (all_batches (last_stamp_of b) made.tries) (holding old.book disk []) (holding b' disk' report.marks.items)
    stores rows h =
        stores_from medium old.settings old.book b disk marks rows (all_batches (last_stamp_of b) made.tries) (holding b' disk' report.marks.items) same none
        (stores_all medium old.settings rows (holding b disk marks) (all_batches (last_stamp_of b) made.tries) (holding b' disk' report.marks.items) made.chain (same.rows rows h) (same.stale ∙ fresh))

    pub not_stale : end ≡ round.Stale → ⊥
    not_stale e = chain_never_stale medium old.settings (holding b disk marks) (all_batches (last_stamp_of b) made.tries) (holding b' disk' report.marks.items) (same.stale ∙ fresh) (last ∙ ap answer_at e) made.chain

    -- what is said of a round, by the stamp that it began after
    record Served (rows : List Row) (stamp : Option CivilMinute) : Type 0 where
      pub attempts : AreAttempts 0 stamp made.tries end
      pub stores : Stores medium old.settings rows (all_batches stamp made.tries) (holding old.book disk []) (holding b' disk' report.marks.items)
      pub tally : IsTally stamp made.tries report.tally
      pub kept : acked report ≡ report.rows_before + length (kept_records (all_batches stamp made.tries))
      pub answered : last_answer (all_batches stamp made.tries) ≡ answer_by end
      pub acknowledged : AcknowledgedAreMarked stamp made.tries report.rows_before report.marks.items

    served : (rows : List Row) → BookStandsFor old.book rows → report.rows_before ≡ len_of old.book → Served rows (last_stamp_of b)
    served rows h before =
        let count : report.rows_before ≡ length rows = before ∙ h.held_is in
        record {
          attempts = made.attempts;
          stores = stores rows h;
          tally = made.counted;
          kept =
              ap (λ (x : List Mark). rows_marked report.rows_before x) (stores rows h).noted ∙ ap (λ (n : ℕ). rows_marked n (marks_for (medium.moment disk) (length rows) (all_batches (last_stamp_of b) made.tries))) count
              ∙ marked_for (medium.moment disk) (length rows) (all_batches (last_stamp_of b) made.tries)
              ∙ ap (λ (n : ℕ). n + length (kept_records (all_batches (last_stamp_of b) made.tries))) (sym count);
          answered = last ∙ answer_is end not_stale;
          acknowledged =
              acknowledged_are_marked (last_stamp_of b) made.tries end (medium.moment disk) report.rows_before report.marks.items made.attempts
              ((stores rows h).noted ∙ ap (λ (n : ℕ). marks_for (medium.moment disk) n (all_batches (last_stamp_of b) made.tries)) (sym count));
        }

    pub serves : (settings : StationSettings) (rows : List Row) → BookStandsFor old.book rows → report.rows_before ≡ len_of old.book
        → ServesRound traffic medium rows end (round_host old link disk) (round_host (record { book = b'; settings = settings }) link' disk') report
    serves settings rows h before =
        let s = subst (λ (x : Option CivilMinute). Served rows x) (same.rows rows h).stamp_is (served rows h before) in
        record {
          tries = made.tries;
          attempts = s.attempts;
          adds = made.adds;
          stores = s.stores;
          answered = s.answered;
          made = made.count;
          tally = s.tally;
          troubles = made.noted;
          kept = s.kept;
          acknowledged = s.acknowledged;
        }

    pub cause : Faults medium disk disk' (end ≡ round.DiskFault)
    cause = record {
      never_falls = chain_faults medium old.settings (holding b disk marks) (all_batches (last_stamp_of b) made.tries) (holding b' disk' report.marks.items) made.chain;
      rose = λ e. chain_rose medium old.settings (holding b disk marks) (all_batches (last_stamp_of b) made.tries) (holding b' disk' report.marks.items) (last ∙ ap answer_at e) made.chain;
    }

    pub waited : end ≡ round.GaveUp → RoseBy (settled_waits * most_attempts) (traffic.quiets link) (traffic.quiets link')
    waited e = let n = gave_up_quiets 0 (last_stamp_of b) made.tries end e made.attempts in let w = made.adds.waits in omega (arith, n, w)

    pub stale_is : book_is_stale b' ≡ stale_with end (book_is_stale old.book)
    stale_is =
        chain_stale medium old.settings (holding b disk marks) (all_batches (last_stamp_of b) made.tries) (holding b' disk' report.marks.items) made.chain
        ∙ ap (λ (a : Stored). stale_after a (book_is_stale b)) last ∙ stale_by end (book_is_stale b) ∙ ap (λ (x : Bool). stale_with end x) same.stale

    pub most_is : most_rows_of b' ≡ most_rows_of old.book
    most_is = chain_most medium old.settings (holding b disk marks) (all_batches (last_stamp_of b) made.tries) (holding b' disk' report.marks.items) made.chain ∙ same.most

    pub begun_is : report.tally.pages ≤ MOST_BATCHES → BeginsChanges medium MOST_CHANGES disk disk'
    begun_is few = (
      chain_begun medium old.settings (holding b disk marks) (all_batches (last_stamp_of b) made.tries) (holding b' disk' report.marks.items) made.chain,
      omega (arith, few, made.counted.pages, batch_count (last_stamp_of b) made.tries, chain_moved medium old.settings (holding b disk marks) (all_batches (last_stamp_of b) made.tries) (holding b' disk' report.marks.items) made.chain),
    )

  -- a round that ends before its first attempt
  pub serves_none : {old : Session} {link : L} {disk : D} {end : RoundEnd} {new : Session} {report : Report} (rows : List Row) → EndsBefore end → IsNew report → BookStandsFor old.book rows → IsSameBook old.book new.book
      → ServesRound traffic medium rows end (round_host old link disk) (round_host new link disk) report
  serves_none {old} {link} {disk} {end} {new} {report} rows before fresh h same = record {
    tries = [];
    attempts = inl (refl, before);
    adds = adds_none traffic link;
    stores =
        let x = stores_none medium old.settings rows (holding new.book disk []) (same.rows rows h) in
        subst (λ (m : List Mark). Stores medium old.settings rows Handed.Nothing (holding old.book disk []) (holding new.book disk m)) (sym fresh.marks)
        (stores_from medium old.settings old.book new.book disk [] rows Handed.Nothing (holding new.book disk []) same refl x);
    answered = none_by end before;
    made = fresh.attempts;
    tally = record { pages = ap (λ (t : Tally). t.pages) fresh.tally; skipped = ap (λ (t : Tally). t.skipped) fresh.tally; newest = ap (λ (t : Tally). t.last) fresh.tally };
    troubles = fresh.troubles;
    kept = ap (λ (x : List Mark). rows_marked report.rows_before x) fresh.marks ∙ omega arith;
    acknowledged = acknowledged_are_marked (last_row_stamp rows) [] end 0 report.rows_before report.marks.items (inl (refl, before)) fresh.marks;
  }

pub same_book : (b : Book) → IsSameBook b b
same_book b = record { rows = λ rows h. h; len = refl; last = refl; most = refl; stale = refl; version = refl }
