-- What is kept in a run: what holds of each item, behind what is known of the items before it.
use Rattle.std.specs.Prelude.{◌≡◌, ℕ, ◌+◌, ◌<◌, ◌≤◌, ◌⊎◌, Bool, true, false, None}
use Rattle.std.specs.Prelude.{List, [], ◌∷◌, ◌++◌, length, take, drop}
use Rattle.std.specs.List.{AllByRecursion, flat_map}
use Rattle.causes.specs.Lists.{IsFrontOf}
use Rattle.station_base.specs.declared.row.Row.{Row}
use Rattle.settings_file.specs.StationSettings.{StationSettings}
use Rattle.packed_rows.specs.Rising.{rows_rise}
use Rattle.console_model.specs.Console.{Begun}
use Rattle.dmpaft_pump.specs.Batch.{records_in}
use Rattle.station_session.specs.Attempts.{most_attempts}
use Rattle.station_session.specs.Batches.{kept_records}
use Rattle.station_session.specs.Records.{stored_rows}
use Rattle.weather_reports.specs.Recomputed.{AreDayLines}
use Rattle.replay_laws.specs.Keeping.{batches_before}
use Rattle.replay_laws.specs.Round.{Ending, LineAttempt, handed_in}
use Rattle.replay_laws.specs.Replay.{Rounded, Item, is_stop}
use Rattle.replay_laws.specs.Texts.{day_lines_text}
use Rattle.replay_laws.specs.DumpCounts.{DumpCount, DumpsGather, dump_count, offered, dump_counts}

-- the history at each dump is the first records of all
abbrev pub AreFirst : List (List ℕ) → List Begun → Type 0
AreFirst records dumps = AllByRecursion (λ (dump : Begun). dump.history ≡ take (length dump.history) records) dumps

-- how many records are in the batches that attempts kept
abbrev pub records_kept : List LineAttempt → ℕ
records_kept [] = 0
records_kept (t ∷ ts) = length (kept_records (handed_in t)) + records_kept ts

-- The last attempt of a round that ends ok. It began one dump, which is the round's last. It gained every newer record
-- that the console still had as that dump began.
pub record IsComplete (settings : StationSettings) (records : List (List ℕ)) (before : List DumpCount)
    (tried : List LineAttempt) : Type 0 where
  pub earlier : List LineAttempt
  pub last : LineAttempt
  pub is_last : tried ≡ earlier ++ last ∷ []
  pub dump : Begun
  pub began : last.dumps ≡ dump ∷ []
  pub last_count : dump_counts tried ≡ dump_counts earlier ++ dump_count last.acknowledged last.gained dump ∷ []
  -- the rows that the dumps before it gave
  pub rows : List Row
  pub gathered : DumpsGather settings records (before ++ dump_counts earlier) [] rows
  pub whole : last.gained ≡ length (offered records rows (length dump.history))

-- the batches of a round, in order
abbrev pub batches_given : List LineAttempt → List (List (List ℕ))
batches_given ts = flat_map (λ (t : LineAttempt). t.batches) ts

-- A stop comes while the last batch of its round is stored. It leaves the rows of the batches before that one, or those
-- and its own.
abbrev pub StopLeaves : StationSettings → Rounded → Type 0
StopLeaves settings x = (k : ℕ) → x.end ≡ Ending.Stopped k → let b = batches_before k in
    (length (batches_given x.tried) ≡ b + 1)
    × ((x.rows ≡ x.before ++ stored_rows settings (records_in (take b (batches_given x.tried)))) ⊎ (x.rows ≡ x.before
    ++ stored_rows settings (records_in (take (b + 1) (batches_given x.tried)))))

-- What is known behind some items: the dumps, the rows of the archive, how many the last round kept, and those printed.
pub record Past : Type 0 where
  pub dumps : List DumpCount
  pub rows : List Row
  -- how many rows the last round kept
  pub acknowledged : ℕ
  -- the rows that were printed
  pub written : List Row

-- nothing is known before the first item
abbrev pub no_past : Past
no_past = record { dumps = []; rows = []; acknowledged = 0; written = [] }

-- the rows that are printed by the end of a round, by whether it was stopped: then it prints none
abbrev pub rows_printed : Bool → List Row → Rounded → List Row
rows_printed true written round = written
rows_printed false written round = round.rows

-- what is known behind one item more; that the rows printed are those of the archive is what `prints` says of it
abbrev pub past_with_item : Past → Item → Past
past_with_item past (Item.Opened rows n) = record past { rows = rows; written = rows }
past_with_item past (Item.OpenStopped change rows) = record past { rows = rows }
past_with_item past (Item.Ran round) = record {
  dumps = past.dumps ++ dump_counts round.tried;
  rows = round.rows;
  acknowledged = length round.kept;
  written = rows_printed (is_stop round.end) past.written round;
}
past_with_item past (Item.Unsaid number which) = past
past_with_item past (Item.Ended rows) = record past { rows = rows }

-- what holds of the rows of an archive that is found again, by a recovery or at the end
pub record HoldsRows (settings : StationSettings) (records : List (List ℕ)) (past : Past) (rows : List Row)
    : Type 0 where
  -- they are what the dumps so far gave
  pub gathers : DumpsGather settings records past.dumps [] rows
  -- they begin with those that were known
  pub grows : IsFrontOf past.rows rows
  -- they are no fewer than those that the last round kept
  pub has_acknowledged : past.acknowledged ≤ length rows
  -- each stamp is there once
  pub once : rows_rise None rows ≡ true

-- what holds of a recovery, of whose rows so many were printed before
pub record HoldsOpening (settings : StationSettings) (records : List (List ℕ)) (past : Past) (rows : List Row)
    (n : ℕ) : Type 0 where
  pub found : HoldsRows settings records past rows
  -- the rows that were printed before it and by it, those behind the first n, are the archive
  pub prints : past.written ++ drop n rows ≡ rows

-- what holds of a round
pub record HoldsRound (settings : StationSettings) (records : List (List ℕ)) (past : Past) (round : Rounded)
    : Type 0 where
  -- it begins with the rows that were known
  pub begins : round.before ≡ past.rows
  -- what it kept begins with these
  pub grows : IsFrontOf past.rows round.kept
  -- what its end left begins with what it kept
  pub leaves : IsFrontOf round.kept round.rows
  -- it kept no fewer rows than the round before it
  pub has_acknowledged : past.acknowledged ≤ length round.kept
  -- it kept one more for each record of the batches that its attempts kept
  pub counts : length round.kept ≡ length past.rows + records_kept round.tried
  -- the history at each of its dumps is the first records of all
  pub first : AllByRecursion (λ (t : LineAttempt). AreFirst records t.dumps) round.tried
  -- what is left is what the dumps so far and its own gave, the records of all acknowledged pages included
  pub gathers : DumpsGather settings records (past.dumps ++ dump_counts round.tried) [] round.rows
  -- each stamp is there once
  pub once : rows_rise None round.rows ≡ true
  -- if it ended ok, its last dump gave every newer record that was held as that dump began
  pub complete : round.end ≡ Ending.Ok → IsComplete settings records past.dumps round.tried
  -- if it was stopped, the rows of whole batches are left
  pub stopped : StopLeaves settings round
  -- if it gave up, it made as many attempts as there may be, each with a harmed delivery
  pub gave_up : round.end ≡ Ending.GaveUp
      → (length round.tried ≡ most_attempts) × AllByRecursion (λ (t : LineAttempt). 0 < t.harmed) round.tried
  -- if it was not stopped, all that it kept is left
  pub shows : is_stop round.end ≡ false → round.kept ≡ round.rows
  -- if it was not stopped, the rows that were printed before it and by it are the archive
  pub prints : is_stop round.end ≡ false → past.written ++ drop round.written round.rows ≡ round.rows

-- what holds at the end of a run
pub record HoldsEnd (settings : StationSettings) (records : List (List ℕ)) (past : Past) (rows : List Row)
    : Type 0 where
  pub found : HoldsRows settings records past rows
  -- the rows that were printed are the archive
  pub prints : past.written ≡ rows
  -- the day lines, which are printed at the end, are those of the rows computed anew
  pub recomputed : AreDayLines rows (day_lines_text rows)

-- what holds of an item, by its kind; behind an unseen delivery nothing is printed
abbrev pub ItemHolds : StationSettings → List (List ℕ) → Past → Item → Type 0
ItemHolds settings records past (Item.Opened rows n) = HoldsOpening settings records past rows n
ItemHolds settings records past (Item.OpenStopped change rows) = HoldsRows settings records past rows
ItemHolds settings records past (Item.Ran round) = HoldsRound settings records past round
ItemHolds settings records past (Item.Unsaid number which) = Unit {0}
ItemHolds settings records past (Item.Ended rows) = HoldsEnd settings records past rows

-- what holds of all items from here on, each behind those before it
abbrev pub KeptFrom : StationSettings → List (List ℕ) → Past → List Item → Type 0
KeptFrom settings records past [] = Unit {0}
KeptFrom settings records past (item ∷ items) =
    ItemHolds settings records past item × KeptFrom settings records (past_with_item past item) items

-- what is kept in a run of these records
abbrev pub Kept : StationSettings → List (List ℕ) → List Item → Type 0
Kept settings records items = KeptFrom settings records no_past items
