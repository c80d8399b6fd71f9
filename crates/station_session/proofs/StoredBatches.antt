-- What batches come to, one after another.
use Rattle.std.proofs.Common.{◌≡◌, ℕ, ◌+◌, ◌*◌, ◌≤◌, Bool, false, inl, inr, List, [], ◌∷◌, ◌++◌, length, refl, sym, ◌∙◌, ap, subst, arith, append-nil, append_assoc, length-append}
use Rattle.disk_model.specs.Medium.{Medium}
use Rattle.station_base.specs.declared.row.Row.{Row}
use Rattle.settings_file.specs.StationSettings.{StationSettings}
use Rattle.weather_book.specs.Book.{BookStandsFor, len_of, most_rows_of, book_is_stale}
use Rattle.packed_rows.specs.Rows.{slot_total}
use Rattle.weather_book.specs.Stands.{HasRows, StandsOn, StandsToReadOn}
use Rattle.causes.specs.declared.stored.Stored.{Stored}
use Rattle.causes.specs.declared.stored.Stored.TheVariants.{Done, Full, Stale, DiskFault}
use Rattle.dmpaft_pump.specs.Keeper.{Handed, Refusal, answer_for, one_batch}
use Rattle.station_session.specs.declared.report.Mark.{Mark}
use Rattle.station_session.specs.Records.{stored_rows}
use Rattle.gated_log.specs.Appending.{ByGate}
use Rattle.gated_log.specs.Layout.{slot_size}
use Rattle.station_session.specs.Batches.{Delivery, delivery, kept_of, kept_records, all_records, BatchFits, Fit, ChangesAreBegun, begun_for, batch_changes, slots_more, changes_for}
use Rattle.station_session.specs.Images.{MayStand, HasWhole}
use Rattle.station_session.specs.Report.{mark, mark_for, marks_for}
use Rattle.station_session.specs.Marks.{MarksHold}
use Rattle.station_session.specs.Holding.{Holding, Stores, rows_after_batches}
use Rattle.station_session.specs.OneBatch.{AddsBatch, JudgesBatch, Chain}
use Rattle.station_session.proofs.Stamps.{stored_append}
use Rattle.station_session.proofs.LastingMarks.{marks_stay, mark_now, marks_join}

-- one batch that became the other is a chain of one
pub chain_one : {K : Type 0} (one : K → Delivery → K → Type 0) (k : K) (answer : Stored) (rows : List (List ℕ)) (l : K) → one k (delivery rows answer) l → Chain one k (one_batch answer rows) l
chain_one one k Done rows l h = (l, h, refl)
chain_one one k Full rows l h = h
chain_one one k Stale rows l h = h
chain_one one k DiskFault rows l h = h

with_more : (settings : StationSettings) (rows : List Row) (r : List (List ℕ)) (more : Handed) → rows_after_batches settings (rows ++ stored_rows settings r) more ≡ rows_after_batches settings rows (Handed.Kept r more)
with_more settings rows r more = append_assoc rows (stored_rows settings r) (stored_rows settings (kept_records more)) ∙ ap (λ (x : List Row). rows ++ x) (sym (stored_append settings r (kept_records more)))

has_some : (settings : StationSettings) (late : Type 0) (rows : List Row) (h : Handed) (c : List ℕ) → HasRows rows c → HasWhole settings late rows h c
has_some settings late rows Handed.Nothing c x = x
has_some settings late rows (Handed.Kept r more) c x = inl x
has_some settings late rows (Handed.Refused r why) c x = inl x

-- a batch that was refused adds no row, no mark, and the changes that failed
none_kept : (why : Refusal) (r : List (List ℕ)) → kept_of (answer_for why) r ≡ []
none_kept Refusal.Full r = refl
none_kept Refusal.Stale r = refl
none_kept Refusal.DiskFault r = refl

none_marked : (why : Refusal) (m n : ℕ) → mark_for (answer_for why) m n ≡ []
none_marked Refusal.Full m n = refl
none_marked Refusal.Stale m n = refl
none_marked Refusal.DiskFault m n = refl

moved_by : (why : Refusal) (failed m n : ℕ) → ChangesAreBegun (answer_for why) failed → n ≡ m + begun_for (answer_for why) failed → n ≡ m + (4 * 0 + failed)
moved_by Refusal.Full failed m n b e = omega (arith, b, e)
moved_by Refusal.Stale failed m n b e = omega (arith, b, e)
moved_by Refusal.DiskFault failed m n b e = omega (arith, e)

fits_by : (a : Stored) (most count count' : ℕ) → count ≡ count' → JudgesBatch a false most count → BatchFits a most count'
fits_by Done most n m e h = omega (arith, h.1, e)
fits_by Full most n m e h = omega (arith, h.1, e)
fits_by DiskFault most n m e h = omega (arith, h.1, e)
fits_by Stale most n m e h = cc

module _ {D : Type 0} (medium : Medium D) (settings : StationSettings) where
  pub stores_none : (rows : List Row) (k : Holding D) → BookStandsFor k.book rows → Stores medium settings rows Handed.Nothing k k
  stores_none rows k h = record {
    fit = tt;
    stands_for = subst (λ (x : List Row). BookStandsFor k.book x) (sym (append-nil rows)) h;
    failed = 0;
    begun = refl;
    moved = omega arith;
    went_on = medium.went_none k.disk;
    noted = sym (append-nil k.marks);
    images = λ st u c le lt. inl lt;
    gate = λ e. cc;
    marked = λ st mk. subst (λ (x : List Row). MarksHold medium k.disk x k.marks) (sym (append-nil rows)) mk;
    stands = λ ne st. subst (λ (x : List Row). StandsOn medium k.book k.disk x) (sym (append-nil rows)) st;
    still = λ e. cc;
  }

  gate_as : (failed : ℕ) (d : D) (before before' all all' : List Row) → before ≡ before' → all ≡ all' → ByGate medium (3 ≤ failed) (slot_size * (slot_total before + 1)) (HasRows before) (HasRows all) d
      → ByGate medium (3 ≤ failed) (slot_size * (slot_total before' + 1)) (HasRows before') (HasRows all') d
  gate_as failed d before before' all all' e f h =
      subst (λ (x : List Row). ByGate medium (3 ≤ failed) (slot_size * (slot_total before' + 1)) (HasRows before') (HasRows x) d) f
      (subst (λ (x : List Row). ByGate medium (3 ≤ failed) (slot_size * (slot_total x + 1)) (HasRows x) (HasRows all) d) e h)

  later_by : (a : Stored) (failed m n : ℕ) → n ≡ m + begun_for a failed → m ≤ n
  later_by a failed m n e = omega (arith, e)

  -- the marks from before hold, whatever becomes of the batch
  old_marked : (rows more : List Row) (k : Holding D) (s : Delivery) (l : Holding D) → AddsBatch medium settings k s l → StandsOn medium k.book k.disk rows → MarksHold medium k.disk rows k.marks → MarksHold medium l.disk (rows ++ more) k.marks
  old_marked rows more k s l t st mk =
      marks_stay medium k.disk l.disk rows (stored_rows settings s.rows) more (MayStand s.answer (3 ≤ t.failed)) (later_by s.answer t.failed (medium.moment k.disk) (medium.moment l.disk) t.moved) (t.images rows st) k.marks mk

  -- and that of a batch that was kept
  kept_marked : (rows : List Row) (k : Holding D) (r : List (List ℕ)) (l : Holding D) → AddsBatch medium settings k (delivery r Done) l → BookStandsFor k.book rows → StandsOn medium k.book k.disk rows
      → MarksHold medium k.disk rows k.marks → MarksHold medium l.disk (rows ++ stored_rows settings r) (k.marks ++ mark_for Done (medium.moment l.disk) (len_of k.book + length r))
  kept_marked rows k r l t h st mk =
      marks_join medium l.disk (rows ++ stored_rows settings r) k.marks (mark_for Done (medium.moment l.disk) (len_of k.book + length r)) (old_marked rows (stored_rows settings r) k (delivery r Done) l t st mk)
      (mark_now medium l.disk (rows ++ stored_rows settings r) (medium.moment l.disk) (len_of k.book + length r) refl (omega (arith, h.held_is, t.count, length-append rows (stored_rows settings r))) (t.now refl rows st), tt)

  stores_refused : (rows : List Row) (k : Holding D) (r : List (List ℕ)) (why : Refusal) (l : Holding D) → AddsBatch medium settings k (delivery r (answer_for why)) l → BookStandsFor k.book rows → book_is_stale k.book ≡ false
      → Stores medium settings rows (Handed.Refused r why) k l
  stores_refused rows k r why l t h fresh = record {
    fit = fits_by (answer_for why) (most_rows_of k.book) (len_of k.book + length r) (length rows + length r) (omega (arith, h.held_is)) (subst (λ (b : Bool). JudgesBatch (answer_for why) b (most_rows_of k.book) (len_of k.book + length r)) fresh t.judged);
    stands_for = subst (λ (x : List Row). BookStandsFor l.book x) rows_are (t.rows rows h);
    failed = t.failed;
    begun = t.begun;
    moved = moved_by why t.failed (medium.moment k.disk) (medium.moment l.disk) t.begun t.moved;
    went_on = t.went_on rows h;
    noted = noted;
    images = λ st. t.images rows st;
    gate = λ e st. gate_as t.failed l.disk rows (rows ++ []) (rows ++ stored_rows settings r) (rows ++ stored_rows settings r) (sym (append-nil rows)) refl (t.gate e rows st);
    marked = λ st mk. subst (λ (x : List Mark). MarksHold medium l.disk (rows ++ []) x) (sym (noted ∙ append-nil k.marks)) (old_marked rows [] k (delivery r (answer_for why)) l t st mk);
    stands = λ ne st. subst (λ (x : List Row). StandsOn medium l.book l.disk x) rows_are (t.stands ne rows st);
    still = λ e st. subst (λ (x : List Row). StandsToReadOn medium l.book l.disk x) (sym (append-nil rows)) (t.still e rows st);
  }
    where
      rows_are : rows ++ stored_rows settings (kept_of (answer_for why) r) ≡ rows ++ []
      rows_are = ap (λ (x : List (List ℕ)). rows ++ stored_rows settings x) (none_kept why r)

      noted : l.marks ≡ k.marks ++ []
      noted = t.noted ∙ ap (λ (x : List Mark). k.marks ++ x) (none_marked why (medium.moment l.disk) (len_of k.book + length r))

  stores_more : (rows : List Row) (k : Holding D) (r : List (List ℕ)) (m : Holding D) (more : Handed) (l : Holding D) → AddsBatch medium settings k (delivery r Done) m → BookStandsFor k.book rows
      → Stores medium settings (rows ++ stored_rows settings r) more m l → Stores medium settings rows (Handed.Kept r more) k l
  stores_more rows k r m more l t h x =
      let same = with_more settings rows r more in
      let held : length (rows ++ stored_rows settings r) ≡ length rows + length r = omega (arith, length-append rows (stored_rows settings r), t.count) in
      let shown : StandsOn medium k.book k.disk rows → StandsOn medium m.book m.disk (rows ++ stored_rows settings r) = λ st. t.stands (λ e. cc) rows st in
      record {
        fit = (omega (arith, t.judged.1, h.held_is), subst (λ (y : ℕ). Fit y (length rows + length r) more) t.most (subst (λ (y : ℕ). Fit (most_rows_of m.book) y more) held x.fit));
        stands_for = subst (λ (y : List Row). BookStandsFor l.book y) same x.stands_for;
        failed = x.failed;
        begun = x.begun;
        moved = omega (arith, x.moved, t.moved);
        went_on = medium.went_joins k.disk m.disk l.disk (batch_changes Done t.failed (slot_total rows) (slots_more rows (stored_rows settings r))) (changes_for settings x.failed (rows ++ stored_rows settings r) more) (t.went_on rows h) x.went_on;
        noted =
            x.noted ∙ ap (λ (y : List Mark). y ++ marks_for (medium.moment m.disk) (length (rows ++ stored_rows settings r)) more) t.noted
            ∙ append_assoc k.marks (mark (medium.moment m.disk) (len_of k.book + length r) ∷ []) (marks_for (medium.moment m.disk) (length (rows ++ stored_rows settings r)) more)
            ∙ ap (λ (y : ℕ). k.marks ++ (mark y (len_of k.book + length r) ∷ marks_for y (length (rows ++ stored_rows settings r)) more)) t.moved
            ∙ ap (λ (y : ℕ). k.marks ++ (mark (medium.moment k.disk + 4) (y + length r) ∷ marks_for (medium.moment k.disk + 4) (length (rows ++ stored_rows settings r)) more)) (h.held_is)
            ∙ ap (λ (y : ℕ). k.marks ++ (mark (medium.moment k.disk + 4) (length rows + length r) ∷ marks_for (medium.moment k.disk + 4) y more)) held;
        images = λ st u c le lt. elim (x.images (shown st) u c (omega (arith, le, t.moved)) lt) [
          | inl was ↦ elim (t.images rows st u c le was) [ inl o ↦ inl o | inr y ↦ inr (elim y [ inl o ↦ inl o | inr z ↦ inr (has_some settings (3 ≤ x.failed) (rows ++ stored_rows settings r) more c z.1) ]) ]
          | inr y ↦ inr (inr y)
        ];
        gate = λ e st. gate_as x.failed l.disk (rows_after_batches settings (rows ++ stored_rows settings r) more) (rows_after_batches settings rows (Handed.Kept r more))
            ((rows ++ stored_rows settings r) ++ stored_rows settings (all_records more)) (rows ++ stored_rows settings (r ++ all_records more)) same
            (append_assoc rows (stored_rows settings r) (stored_rows settings (all_records more)) ∙ ap (λ (y : List Row). rows ++ y) (sym (stored_append settings r (all_records more)))) (x.gate e (shown st));
        marked = λ st mk. subst (λ (y : List Row). MarksHold medium l.disk y l.marks) same (x.marked (shown st) (subst (λ (y : List Mark). MarksHold medium m.disk (rows ++ stored_rows settings r) y) (sym t.noted) (kept_marked rows k r m t h st mk)));
        stands = λ ne st. subst (λ (y : List Row). StandsOn medium l.book l.disk y) same (x.stands ne (shown st));
        still = λ e st. subst (λ (y : List Row). StandsToReadOn medium l.book l.disk y) same (x.still e (shown st));
      }

  pub stores_all : (rows : List Row) (k : Holding D) (h : Handed) (l : Holding D) → Chain (AddsBatch medium settings) k h l → BookStandsFor k.book rows → book_is_stale k.book ≡ false → Stores medium settings rows h k l
  stores_all rows k Handed.Nothing l c st fresh = subst (λ (x : Holding D). Stores medium settings rows Handed.Nothing k x) (sym c) (stores_none rows k st)
  stores_all rows k (Handed.Kept r more) l c st fresh = stores_more rows k r c.0 more l c.1 st (stores_all (rows ++ stored_rows settings r) c.0 more l c.2 (c.1.rows rows st) (c.1.stale ∙ fresh))
  stores_all rows k (Handed.Refused r why) l c st fresh = stores_refused rows k r why l c st fresh
