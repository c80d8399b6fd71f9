-- What one batch makes of a book, its disk and its marks.
use Rattle.std.specs.Prelude.{◌≡◌, ◌≢◌, ℕ, ◌+◌, ◌*◌, ◌≤◌, Bool, true, false, List, [], ◌∷◌, ◌++◌, length}
use Rattle.std.proofs.Common.{subst}
use Rattle.disk_model.specs.Medium.{Medium}
use Rattle.disk_model.specs.Disk.{Faults, LeavesOnly}
use Rattle.station_base.specs.declared.row.Row.{Row}
use Rattle.settings_file.specs.StationSettings.{StationSettings}
use Rattle.weather_book.specs.Book.{BookStandsFor, len_of, last_stamp_of, most_rows_of, book_is_stale}
use Rattle.packed_rows.specs.Rows.{slot_total}
use Rattle.gated_log.specs.Appending.{ByGate}
use Rattle.gated_log.specs.Calls.{gate_change}
use Rattle.weather_book.specs.Stands.{HasRows, NowHasRows, RowsOldOrAll, StandsOn, StandsToReadOn}
use Rattle.causes.specs.declared.stored.Stored.{Stored}
use Rattle.causes.specs.declared.stored.Stored.TheVariants as stored
use Rattle.dmpaft_pump.specs.Keeper.{Handed, answer_for, one_batch, kept_all, join, last_kept}
use Rattle.station_session.specs.Records.{stored_rows}
use Rattle.causes.specs.Stored.{stale_after}
use Rattle.gated_log.specs.Layout.{slot_size}
use Rattle.station_session.specs.Batches.{Delivery, delivery, kept_of, BatchFits, ChangesAreBegun}
use Rattle.station_session.specs.Batches.{begun_for, batch_changes}
use Rattle.station_session.specs.Batches.{slots_more}
use Rattle.station_session.specs.Images.{MayStand}
use Rattle.station_session.specs.Report.{mark_for}
use Rattle.station_session.specs.Holding.{Holding}

-- a book answers a batch so by whether it is stale, and else by whether the batch fits
abbrev pub JudgesBatch : Stored → Bool → ℕ → ℕ → Type 0
JudgesBatch stored.Stale stale most count = stale ≡ true
JudgesBatch stored.Done stale most count = (stale ≡ false) × BatchFits stored.Done most count
JudgesBatch stored.Full stale most count = (stale ≡ false) × BatchFits stored.Full most count
JudgesBatch stored.DiskFault stale most count = (stale ≡ false) × BatchFits stored.DiskFault most count

-- A batch was given to a book, and answered so.
pub record AddsBatch {D : Type 0} (medium : Medium D)
    (settings : StationSettings) (old : Holding D) (s : Delivery) (new : Holding D) : Type 0 where
  pub newest : last_stamp_of new.book ≡ last_kept (one_batch s.answer s.rows) (last_stamp_of old.book)
  pub judged : JudgesBatch s.answer (book_is_stale old.book) (most_rows_of old.book) (len_of old.book + length s.rows)
  pub stale : book_is_stale new.book ≡ stale_after s.answer (book_is_stale old.book)
  pub most : most_rows_of new.book ≡ most_rows_of old.book
  pub cause : Faults medium old.disk new.disk (s.answer ≡ stored.DiskFault)
  pub rows : (rows : List Row) → BookStandsFor old.book rows
      → BookStandsFor new.book (rows ++ stored_rows settings (kept_of s.answer s.rows))
  pub count : length (stored_rows settings (kept_of s.answer s.rows)) ≡ length (kept_of s.answer s.rows)
  pub failed : ℕ
  pub begun : ChangesAreBegun s.answer failed
  pub moved : medium.moment new.disk ≡ medium.moment old.disk + begun_for s.answer failed
  pub went_on : (rows : List Row) → BookStandsFor old.book rows
      → medium.went old.disk
      (batch_changes s.answer failed (slot_total rows) (slots_more rows (stored_rows settings s.rows))) new.disk
  pub noted : new.marks ≡ old.marks ++ mark_for s.answer (medium.moment new.disk) (len_of old.book + length s.rows)
  pub images : (rows : List Row) → StandsOn medium old.book old.disk rows
      → LeavesOnly medium (RowsOldOrAll rows (stored_rows settings s.rows) (MayStand s.answer (gate_change ≤ failed)))
      old.disk new.disk
  pub gate : s.answer ≡ stored.DiskFault → (rows : List Row) → StandsOn medium old.book old.disk rows
      → ByGate medium (gate_change ≤ failed) (slot_size * (slot_total rows + 1)) (HasRows rows)
      (HasRows (rows ++ stored_rows settings s.rows)) new.disk
  pub now : s.answer ≡ stored.Done → (rows : List Row) → StandsOn medium old.book old.disk rows
      → NowHasRows medium new.disk (rows ++ stored_rows settings s.rows)
  pub stands : s.answer ≢ stored.DiskFault → (rows : List Row) → StandsOn medium old.book old.disk rows
      → StandsOn medium new.book new.disk (rows ++ stored_rows settings (kept_of s.answer s.rows))
  pub still : s.answer ≡ stored.DiskFault → (rows : List Row) → StandsOn medium old.book old.disk rows
      → StandsToReadOn medium new.book new.disk rows

-- one became the other by these batches, one after another
abbrev pub Chain : {K : Type 0} → (K → Delivery → K → Type 0) → K → Handed → K → Type 0
Chain one k Handed.Nothing l = l ≡ k
Chain one k (Handed.Kept rows more) l = (m : _) × one k (delivery rows stored.Done) m × Chain one m more l
Chain one k (Handed.Refused rows why) l = one k (delivery rows (answer_for why)) l

pub chain_joins : {K : Type 0} (one : K → Delivery → K → Type 0) (k l m : K) (first : List (List (List ℕ)))
    (later : Handed) → Chain one k (kept_all first) l → Chain one l later m
    → Chain one k (join (kept_all first) later) m
chain_joins one k l m [] later x y = subst (λ (z : _). Chain one z later m) x y
chain_joins one k l m (rows ∷ first) later x y = (x.0, x.1, chain_joins one x.0 l m first later x.2 y)
