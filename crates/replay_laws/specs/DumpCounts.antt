-- The dumps of a run, and the rows that they give.
use Rattle.std.specs.Prelude.{◌≡◌, ℕ, ◌≤◌, min, List, [], ◌∷◌, ◌++◌, length, map, take}
use Rattle.std.specs.List.{flat_map}
use Rattle.station_base.specs.declared.row.Row.{Row}
use Rattle.settings_file.specs.StationSettings.{StationSettings}
use Rattle.packed_rows.specs.Rising.{last_row_stamp}
use Rattle.console_model.specs.Console.{Begun}
use Rattle.station_session.specs.Records.{stored_rows}
use Rattle.line_laws.specs.Gathers.{newer_held}
use Rattle.line_laws.specs.PagesAcknowledged.{records_on_pages}
use Rattle.replay_laws.specs.Round.{LineAttempt}

-- a dump, in numbers
pub record DumpCount : Type 0 where
  -- how many records were due as the dump began
  pub due : ℕ
  -- how many records stand at most on the pages that were acknowledged
  pub acknowledged : ℕ
  -- how many rows were gained by the dump
  pub gained : ℕ

-- what a dump could give: of so many first records, those that the console still had and that are newer than the last
-- row
abbrev pub offered : List (List ℕ) → List Row → ℕ → List (List ℕ)
offered records rows due = newer_held (last_row_stamp rows) (take due records)

-- From some rows, dump after dump, to the rows left: each dump gives the first of the newer records that were held as
-- it began, and as many at least as stand on its acknowledged pages.
abbrev pub DumpsGather : StationSettings → List (List ℕ) → List DumpCount → List Row → List Row → Type 0
DumpsGather settings records [] rows left = left ≡ rows
DumpsGather settings records (dump ∷ dumps) rows left =
    let new = offered records rows dump.due in
    (min dump.acknowledged (length new) ≤ dump.gained) × (dump.gained ≤ length new)
    × DumpsGather settings records dumps (rows ++ stored_rows settings (take dump.gained new)) left

-- a dump of which so many pages were acknowledged, and by which so many rows were gained
abbrev pub dump_count : ℕ → ℕ → Begun → DumpCount
dump_count pages gained dump = record {
  due = length dump.history;
  acknowledged = records_on_pages pages dump.plan;
  gained = gained;
}

-- the dumps that an attempt began, which is one at most
abbrev pub counts_of_attempt : LineAttempt → List DumpCount
counts_of_attempt attempt = map (dump_count attempt.acknowledged attempt.gained) attempt.dumps

-- the dumps of all attempts
abbrev pub dump_counts : List LineAttempt → List DumpCount
dump_counts attempts = flat_map counts_of_attempt attempts
