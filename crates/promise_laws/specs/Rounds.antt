-- Rounds that no run may have: acknowledged pages that are not kept, a record left behind, half a page, and a round
-- that is given up too early.
use Rattle.std.specs.Prelude.{◌≡◌, ◌≢◌, ℕ, ◌<◌, min, List, [], ◌∷◌, ◌++◌, length, take}
use Rattle.std.specs.List.{Contains}
use Rattle.causes.specs.Lists.{IsFrontOf}
use Rattle.station_base.specs.declared.row.Row.{Row}
use Rattle.vantage_frames.specs.StampFrame.{stamp_frame_of}
use Rattle.settings_file.specs.StationSettings.{StationSettings}
use Rattle.packed_rows.specs.Rising.{last_row_stamp}
use Rattle.console_model.specs.Console.{Begun}
use Rattle.dmpaft_pump.specs.Batch.{records_in}
use Rattle.dmpaft_driver.specs.OneAttempt.{Acknowledges}
use Rattle.station_session.specs.Attempts.{most_attempts}
use Rattle.station_session.specs.Records.{stored_rows}
use Rattle.line_laws.specs.PagesAcknowledged.{records_on_pages}
use Rattle.replay_laws.specs.Acknowledged.{rows_after_attempts, rows_with_pages}
use Rattle.replay_laws.specs.Kept.{Past, batches_given}
use Rattle.replay_laws.specs.DumpCounts.{DumpsGather, offered, dump_counts}
use Rattle.replay_laws.specs.Replay.{Item, Rounded}
use Rattle.replay_laws.specs.Round.{LineAttempt, Ending}

-- the item is a round that has this
abbrev pub SomeRound : (Past → Rounded → Type 0) → Past → Item → Type 0
SomeRound has past item = (round : Rounded) × (item ≡ Item.Ran round) × has past round

-- A dump of the round gave fewer of the newer records than stand on its acknowledged pages.
pub record DropsAcknowledgedPages (settings : StationSettings) (records : List (List ℕ)) (past : Past) (round : Rounded)
    : Type 0 where
  pub earlier : List LineAttempt
  pub attempt : LineAttempt
  pub later : List LineAttempt
  pub tried : round.tried ≡ earlier ++ attempt ∷ later
  pub dump : Begun
  pub began : attempt.dumps ≡ dump ∷ []
  pub rows : List Row
  pub gathered : DumpsGather settings records (past.dumps ++ dump_counts earlier) [] rows
  pub dropped : attempt.gained
      < min (records_on_pages attempt.acknowledged dump.plan) (length (offered records rows (length dump.history)))

-- In an attempt of the round 0x06 was said right after these pages, and the round did not keep their rows.
pub record DropsPagesSaid (settings : StationSettings) (past : Past) (round : Rounded) : Type 0 where
  pub earlier : List LineAttempt
  pub attempt : LineAttempt
  pub later : List LineAttempt
  pub place : ℕ
  pub pages : List (List ℕ)
  pub tried : round.tried ≡ earlier ++ attempt ∷ later
  pub acknowledged : Acknowledges (stamp_frame_of (last_row_stamp (rows_after_attempts settings round.before earlier)))
      attempt.made.said place pages
  pub dropped : ¬ IsFrontOf (rows_with_pages settings (rows_after_attempts settings round.before earlier) place pages)
      round.kept

-- The round ended ok, and its last dump gave fewer or more records than the newer ones that were held as it began.
pub record LeavesNewerRecord (settings : StationSettings) (records : List (List ℕ)) (past : Past) (round : Rounded)
    : Type 0 where
  pub ended_ok : round.end ≡ Ending.Ok
  pub earlier : List LineAttempt
  pub last : LineAttempt
  pub tried : round.tried ≡ earlier ++ last ∷ []
  pub dump : Begun
  pub began : last.dumps ≡ dump ∷ []
  pub rows : List Row
  pub gathered : DumpsGather settings records (past.dumps ++ dump_counts earlier) [] rows
  pub not_all : last.gained ≢ length (offered records rows (length dump.history))

-- The round was stopped, and what it left are not the rows of whole pages, however many.
pub record LeavesHalfPage (settings : StationSettings) (past : Past) (round : Rounded) : Type 0 where
  pub change : ℕ
  pub stopped : round.end ≡ Ending.Stopped change
  pub not_whole : (count : ℕ)
      → round.rows ≢ round.before ++ stored_rows settings (records_in (take count (batches_given round.tried)))

-- the round was given up after fewer attempts than there may be
abbrev pub GivesUpEarly : Past → Rounded → Type 0
GivesUpEarly past round = (round.end ≡ Ending.GaveUp) × (length round.tried < most_attempts)

-- the round was given up, though one of its attempts had no harmed delivery
abbrev pub GivesUpUnharmed : Past → Rounded → Type 0
GivesUpUnharmed past round =
    (round.end ≡ Ending.GaveUp) × (attempt : LineAttempt) × Contains round.tried attempt × (attempt.harmed ≡ 0)
