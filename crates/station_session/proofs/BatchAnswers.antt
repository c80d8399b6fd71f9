-- A batch that is added is taken as its answer says.
use Rattle.std.proofs.Common.{◌≡◌, ◌↔◌, ℕ, ◌+◌, ◌-◌, ◌*◌, ◌<◌, ◌≤◌, Bool, true, false, inl, inr, List, [], ◌∷◌, ◌++◌, length, take, refl, sym, ◌∙◌, ap, subst, arith, append-nil}
use Rattle.disk_model.specs.Medium.{Medium}
use Rattle.disk_model.specs.Disk.{Faults, LeavesOnly}
use Rattle.disk_model.specs.declared.disk.Disked.{Disked}
use Rattle.disk_model.specs.declared.disk.Disked.TheVariants as disked
use Rattle.gated_log.specs.Calls.{up_to, append_changes}
use Rattle.station_base.specs.declared.row.Row.{Row}
use Rattle.settings_file.specs.StationSettings.{StationSettings}
use Rattle.weather_book.specs.declared.book.Book.{Book}
use Rattle.packed_rows.specs.Adding.{OnUndone, rows_after}
use Rattle.causes.specs.Stored.{stale_after}
use Rattle.disk_model.specs.Stored.{disk_answer}
use Rattle.weather_book.specs.Book.{BookStandsFor, len_of, last_stamp_of, most_rows_of, book_is_stale}
use Rattle.packed_rows.specs.Rising as book
use Rattle.packed_rows.specs.Rows.{slot_total}
use Rattle.gated_log.specs.Appending.{ByGate, Moved, OnAppended, OnRefused}
use Rattle.weather_book.specs.Stands.{HasRows, NowHasRows, RowsOldOrAll, StandsOn, StandsToReadOn}
use Rattle.causes.specs.declared.stored.Stored.{Stored}
use Rattle.causes.specs.declared.stored.Stored.TheVariants as stored
use Rattle.gated_log.specs.Layout.{slot_size}
use Rattle.station_session.specs.declared.report.Mark.{Mark}
use Rattle.station_session.specs.Records.{stored_rows, AllRead}
use Rattle.station_session.specs.Report.{mark, mark_for}
use Rattle.station_session.specs.Holding.{holding}
use Rattle.station_session.specs.Batches.{delivery}
use Rattle.station_session.specs.OneBatch.{AddsBatch}
use Rattle.station_session.proofs.Stamps.{same_count, last_is}

-- what an add of these rows tells
pub record Tells {D : Type 0} (medium : Medium D)
    (a : Stored) (rows : List Row) (old : Book) (disk : D) (new : Book) (disk' : D) : Type 0 where
  pub stale : (a ≡ stored.Stale) ↔ (book_is_stale old ≡ true)
  pub full : (a ≡ stored.Full) ↔ ((book_is_stale old ≡ false) × (most_rows_of old < len_of old + length rows))
  pub cause : Faults medium disk disk' (a ≡ stored.DiskFault)
  pub marked : book_is_stale new ≡ stale_after a (book_is_stale old)
  pub most : most_rows_of new ≡ most_rows_of old
  pub rows_are : (l : List Row) → BookStandsFor old l → BookStandsFor new (rows_after a l rows)
  pub newest : last_stamp_of new ≡ book.last_stamp_after (last_stamp_of old) (rows_after a [] rows)
  pub moved : Moved a (medium.moment disk) (medium.moment disk')
  pub untouched : OnRefused a ((new ≡ old) × (disk' ≡ disk))
  pub went_on : (l : List Row) → BookStandsFor old l → medium.went disk (up_to (take (medium.moment disk' - medium.moment disk) (append_changes (slot_size * (slot_total l + 1)) (slot_size * (slot_total (l ++ rows) - slot_total l)))) (disk_answer a)) disk'
  pub images : (l : List Row) → StandsOn medium old disk l → LeavesOnly medium (RowsOldOrAll l rows (medium.moment disk + 3 ≤ medium.moment disk')) disk disk'
  pub gate : a ≡ stored.DiskFault → (l : List Row) → StandsOn medium old disk l
      → ByGate medium (medium.moment disk + 3 ≤ medium.moment disk') (slot_size * (slot_total l + 1)) (HasRows l) (HasRows (l ++ rows)) disk'
  pub still : OnUndone a ((l : List Row) → StandsOn medium old disk l → StandsToReadOn medium new disk' l)
  pub now : OnAppended a ((l : List Row) → StandsOn medium old disk l → NowHasRows medium disk' (l ++ rows))
  pub stands : OnAppended a ((l : List Row) → StandsOn medium old disk l → StandsOn medium new disk' (l ++ rows))

false_true : (b : Bool) → (b ≡ true → ⊥) → b ≡ false
false_true true h = absurd (h refl)
false_true false h = refl

most_le : (a b : ℕ) → (a < b → ⊥) → b ≤ a
most_le a b h = omega arith

-- no list at its end changes nothing
kept_same : (settings : StationSettings) (l : List Row) → l ≡ l ++ stored_rows settings []
kept_same settings l = sym (append-nil l)

module _ {D : Type 0} (medium : Medium D)
    (settings : StationSettings) (records : List (List ℕ)) (read : AllRead records) (old : Book) (disk : D) (marks : List Mark) (new : Book) (disk' : D) (marks' : List Mark) where
  abbrev AreTold : Stored → Type 0
  AreTold a = Tells medium a (stored_rows settings records) old disk new disk'

  abbrev AreTaken : Stored → Type 0
  AreTaken a = (marks' ≡ marks ++ mark_for a (medium.moment disk') (len_of old + length records)) → AddsBatch medium settings (holding old disk marks) (delivery records a) (holding new disk' marks')

  count : length (stored_rows settings records) ≡ length records
  count = same_count settings records read

  not_stale : (a : Stored) → AreTold a → (a ≡ stored.Stale → ⊥) → book_is_stale old ≡ false
  not_stale a t h = false_true (book_is_stale old) (λ s. h (t.stale.1 s))

  fits : (a : Stored) → AreTold a → (a ≡ stored.Stale → ⊥) → (a ≡ stored.Full → ⊥) → len_of old + length records ≤ most_rows_of old
  fits a t h k = let m = most_le (most_rows_of old) (len_of old + length (stored_rows settings records)) (λ less. k (t.full.1 (not_stale a t h, less))) in omega (arith, m, count)

  book_same : (P : Book → Type 0) → new ≡ old → P old → P new
  book_same P e h = subst P (sym e) h

  went_as : (a : Disked) (n slots count : ℕ) → medium.moment disk' - medium.moment disk ≡ n → medium.went disk (up_to (take (medium.moment disk' - medium.moment disk) (append_changes slots count)) a) disk'
      → medium.went disk (up_to (take n (append_changes slots count)) a) disk'
  went_as a n slots count e h = subst (λ (k : ℕ). medium.went disk (up_to (take k (append_changes slots count)) a) disk') e h

  taken_done : AreTold stored.Done → AreTaken stored.Done
  taken_done t noted = record {
    newest = t.newest ∙ last_is settings records (last_stamp_of old) read;
    judged = (not_stale stored.Done t (λ e. cc), fits stored.Done t (λ e. cc) (λ e. cc));
    stale = t.marked;
    most = t.most;
    cause = record { never_falls = t.cause.never_falls; rose = λ e. cc };
    rows = t.rows_are;
    count = count;
    failed = 0;
    begun = refl;
    moved = t.moved;
    went_on = λ l h. went_as disked.Done 4 _ _ (omega (arith, t.moved)) (t.went_on l h);
    noted = noted;
    images = λ l h u c le lt. elim (t.images l h u c le lt) [ inl was ↦ inl was | inr now ↦ inr (elim now [ inl o ↦ inl o | inr x ↦ inr (tt, x.1) ]) ];
    gate = λ e. absurd (let y : stored.Done ≡ stored.DiskFault = e in cc);
    now = λ e. t.now;
    stands = λ e. t.stands;
    still = λ e. cc;
  }

  taken_fault : AreTold stored.DiskFault → AreTaken stored.DiskFault
  taken_fault t noted = record {
    newest = t.newest;
    judged = (not_stale stored.DiskFault t (λ e. cc), fits stored.DiskFault t (λ e. cc) (λ e. cc));
    stale = t.marked;
    most = t.most;
    cause = record { never_falls = t.cause.never_falls; rose = λ e. t.cause.rose refl };
    rows = λ l h. subst (λ (x : List Row). BookStandsFor new x) (kept_same settings l) (t.rows_are l h);
    count = refl;
    failed = medium.moment disk' - medium.moment disk;
    begun = (omega (arith, t.moved.0), omega (arith, t.moved.0, t.moved.1));
    moved = omega (arith, t.moved.0);
    went_on = λ l h. went_as disked.Failed (medium.moment disk' - medium.moment disk) _ _ refl (t.went_on l h);
    noted = noted;
    images = λ l h u c le lt. elim (t.images l h u c le lt) [ inl was ↦ inl was | inr now ↦ inr (elim now [ inl o ↦ inl o | inr x ↦ inr (omega (arith, x.0), x.1) ]) ];
    gate = λ e l h. let q = t.gate refl l h in record {
      closed = λ late. q.closed (omega (arith, t.moved.0, late));
      within = q.within;
      images = λ c now. elim (q.images c now) [ inl x ↦ inl x | inr x ↦ inr (omega (arith, x.0), x.1, x.2) ];
    };
    now = λ e. cc;
    stands = λ e. absurd (e refl);
    still = λ e. t.still;
  }

  taken_full : AreTold stored.Full → AreTaken stored.Full
  taken_full t noted = record {
    newest = t.newest;
    judged = ((t.full.0 refl).0, omega (arith, (t.full.0 refl).1, count));
    stale = t.marked;
    most = t.most;
    cause = record { never_falls = t.cause.never_falls; rose = λ e. cc };
    rows = λ l h. subst (λ (x : List Row). BookStandsFor new x) (kept_same settings l) (t.rows_are l h);
    count = refl;
    failed = 0;
    begun = refl;
    moved = omega (arith, t.moved);
    went_on = λ l h. went_as disked.Failed 0 _ _ (omega (arith, t.moved)) (t.went_on l h);
    noted = noted;
    images = λ l h u c le lt. inl (subst (λ (x : D). medium.left x u c) t.untouched.1 lt);
    gate = λ e. absurd (let y : stored.Full ≡ stored.DiskFault = e in cc);
    now = λ e. cc;
    stands = λ e l h. subst (λ (x : List Row). StandsOn medium new disk' x) (kept_same settings l) (subst (λ (x : D). StandsOn medium new x l) (sym t.untouched.1) (book_same (λ (x : Book). StandsOn medium x disk l) t.untouched.0 h));
    still = λ e. cc;
  }

  taken_stale : AreTold stored.Stale → AreTaken stored.Stale
  taken_stale t noted = record {
    newest = t.newest;
    judged = t.stale.0 refl;
    stale = t.marked;
    most = t.most;
    cause = record { never_falls = t.cause.never_falls; rose = λ e. cc };
    rows = λ l h. subst (λ (x : List Row). BookStandsFor new x) (kept_same settings l) (t.rows_are l h);
    count = refl;
    failed = 0;
    begun = refl;
    moved = omega (arith, t.moved);
    went_on = λ l h. went_as disked.Failed 0 _ _ (omega (arith, t.moved)) (t.went_on l h);
    noted = noted;
    images = λ l h u c le lt. inl (subst (λ (x : D). medium.left x u c) t.untouched.1 lt);
    gate = λ e. absurd (let y : stored.Stale ≡ stored.DiskFault = e in cc);
    now = λ e. cc;
    stands = λ e l h. subst (λ (x : List Row). StandsOn medium new disk' x) (kept_same settings l) (subst (λ (x : D). StandsOn medium new x l) (sym t.untouched.1) (book_same (λ (x : Book). StandsOn medium x disk l) t.untouched.0 h));
    still = λ e. cc;
  }

  pub taken : (a : Stored) → AreTold a → AreTaken a
  taken stored.Done t = taken_done t
  taken stored.Full t = taken_full t
  taken stored.Stale t = taken_stale t
  taken stored.DiskFault t = taken_fault t

  -- the same, of rows that are these, and by what the answer is
  pub taken_as : (a b : Stored) → a ≡ b → (rows : List Row) → rows ≡ stored_rows settings records → Tells medium a rows old disk new disk' → AreTaken b
  taken_as a b e rows same t = subst (λ (x : Stored). AreTaken x) e (taken a (subst (λ (x : List Row). Tells medium a x old disk new disk') same t))

pub mark_as : (marks : List Mark) (m n m' n' : ℕ) → m ≡ m' → n ≡ n' → marks ++ mark m n ∷ [] ≡ marks ++ mark m' n' ∷ []
mark_as marks m n m' n' e f = ap (λ (x : ℕ). marks ++ mark x n ∷ []) e ∙ ap (λ (x : ℕ). marks ++ mark m' x ∷ []) f

-- a batch that was not kept has no mark
pub no_mark : (a : Stored) (marks : List Mark) (m n : ℕ) → (a ≡ stored.Done → ⊥) → marks ≡ marks ++ mark_for a m n
no_mark stored.Done marks m n other = absurd (other refl)
no_mark stored.Full marks m n other = sym (append-nil marks)
no_mark stored.Stale marks m n other = sym (append-nil marks)
no_mark stored.DiskFault marks m n other = sym (append-nil marks)
