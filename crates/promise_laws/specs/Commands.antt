-- What no round and no report may be: a page acknowledged before its rows were stored, and a line that nobody asked
-- for.
use Rattle.std.specs.Prelude.{◌≡◌, ◌≢◌, ℕ, ◌+◌, List, ◌∷◌, ◌++◌, length, Option}
use Rattle.causes.specs.Lists.{IsFrontOf}
use Rattle.station_base.specs.CivilMinute.{CivilMinute}
use Rattle.vantage_frames.specs.StampFrame.{stamp_frame_of}
use Rattle.dmpaft_pump.specs.Batch.{records_in}
use Rattle.dmpaft_driver.specs.OneAttempt.{Acknowledges}
use Rattle.station_session.specs.Acknowledged.{kept_up_to}
use Rattle.station_session.specs.Attempts.{MadeAttempt, stamp_behind}
use Rattle.station_session.specs.Report.{rows_marked}
use Rattle.station_session.specs.declared.report.Mark.{Mark}
use Rattle.station_session.specs.declared.report.Report.{Report}

-- In an attempt of a round after this stamp 0x06 was said right after these pages, and no mark tells that so many rows
-- were stored as there are with all batches up to theirs.
pub record AcknowledgesUnstored (last : Option CivilMinute) (tries : List MadeAttempt) (report : Report) : Type 0 where
  pub earlier : List MadeAttempt
  pub attempt : MadeAttempt
  pub later : List MadeAttempt
  pub place : ℕ
  pub pages : List (List ℕ)
  pub tried : tries ≡ earlier ++ attempt ∷ later
  pub acknowledged : Acknowledges (stamp_frame_of (stamp_behind last earlier)) attempt.said place pages
  pub unmarked : (noted : List Mark) → IsFrontOf noted report.marks.items
      → rows_marked report.rows_before noted
      ≢ report.rows_before + length (records_in (kept_up_to last earlier place pages))
