-- What was stored and marked before a page was acknowledged.
use Rattle.std.specs.Prelude.{◌≡◌, ℕ, ◌+◌, List, ◌∷◌, ◌++◌, length, Option}
use Rattle.causes.specs.Lists.{IsFrontOf}
use Rattle.station_base.specs.CivilMinute.{CivilMinute}
use Rattle.vantage_frames.specs.StampFrame.{stamp_frame_of}
use Rattle.dmpaft_pump.specs.Batch.{batches, records_in}
use Rattle.dmpaft_pump.specs.Keeper.{Handed, kept_in}
use Rattle.dmpaft_driver.specs.OneAttempt.{Acknowledges}
use Rattle.station_session.specs.declared.report.Mark.{Mark}
use Rattle.station_session.specs.Attempts.{MadeAttempt, stamp_behind, all_batches}
use Rattle.station_session.specs.Report.{rows_marked}

-- the batches of these attempts that were kept, and those of pages of the attempt behind them
abbrev pub kept_up_to : Option CivilMinute → List MadeAttempt → ℕ → List (List ℕ) → List (List (List ℕ))
kept_up_to last earlier place pages =
    kept_in (all_batches last earlier) ++ batches (stamp_behind last earlier) place pages

-- These batches were kept before all others, and the first marks tell just the rows with their records.
pub record AreMarked (before : ℕ) (marks : List Mark) (kept : List (List (List ℕ))) (all : Handed) : Type 0 where
  pub first : IsFrontOf kept (kept_in all)
  pub noted : List Mark
  pub noted_first : IsFrontOf noted marks
  pub rows : rows_marked before noted ≡ before + length (records_in kept)

-- For each 0x06 that an attempt says right after a page was taken, the batches up to that page are kept and marked. The
-- first marks tell just their rows.
abbrev pub AcknowledgedAreMarked : Option CivilMinute → List MadeAttempt → ℕ → List Mark → Type 0
AcknowledgedAreMarked last tries before marks =
    (earlier : List MadeAttempt) (t : MadeAttempt) (later : List MadeAttempt) (place : ℕ) (pages : List (List ℕ))
    → tries ≡ earlier ++ t ∷ later → Acknowledges (stamp_frame_of (stamp_behind last earlier)) t.said place pages
    → AreMarked before marks (kept_up_to last earlier place pages) (all_batches last tries)
