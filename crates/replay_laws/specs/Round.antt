-- One round.
use Rattle.std.specs.Prelude.{◌≡◌, ◌≢◌, ℕ, ◌+◌, List, [], ◌∷◌, ◌++◌, length, map, Some, None}
use Rattle.std.specs.declared.option.Option.{Option}
use Rattle.station_base.specs.declared.row.Row.{Row}
use Rattle.settings_file.specs.StationSettings.{StationSettings}
use Rattle.packed_rows.specs.Rising.{last_row_stamp}
use Rattle.console_model.specs.Console.{Begun}
use Rattle.dmpaft_pump.specs.Batch.{answered_batches, batches, records_in}
use Rattle.dmpaft_pump.specs.Keeper.{Handed}
use Rattle.dmpaft_driver.specs.Gathered.{keeper_answer}
use Rattle.station_session.specs.Attempts.{MadeAttempt}
use Rattle.station_session.specs.Records.{stored_rows}
use Rattle.schedule_file.specs.Fates.{FatesByNumber}
use Rattle.station_sim.specs.Line.{Line, waited}
use Rattle.station_sim.specs.Talk.{ConsoleTalk}
use Rattle.line_laws.specs.PagesAcknowledged.{pages_acknowledged}
use Rattle.schedule_file.specs.declared.schedule.step.Stop.{Stop}

-- how a round ends
pub data Ending : Type 0 where
  Ok : Ending
  GaveUp : Ending
  Full : Ending
  Stopped : (change : ℕ) → Ending

-- An attempt as a session knows it, and what the line tells of it.
pub record LineAttempt : Type 0 where
  pub made : MadeAttempt
  -- the batches of the pages that were taken
  pub batches : List (List (List ℕ))
  -- the dumps that began, which are one at most
  pub dumps : List Begun
  -- how many pages were acknowledged
  pub acknowledged : ℕ
  -- how many deliveries were harmed
  pub harmed : ℕ
  -- how many rows were gained
  pub gained : ℕ

-- the attempts as a session knows them
abbrev pub made_attempts : List LineAttempt → List MadeAttempt
made_attempts ts = map (λ t. t.made) ts

-- what became of the batches of an attempt
abbrev pub handed_in : LineAttempt → Handed
handed_in t = answered_batches (keeper_answer t.made.end) t.batches

-- what a line tells of an attempt, from that line and some rows to a line and some rows
pub record IsLineAttempt (f : FatesByNumber) (rows : List Row) (w : Line) (t : LineAttempt) (after : List Row)
    (v : Line) : Type 0 where
  pub talks : ConsoleTalk f t.made.said w v
  pub batches : t.batches ≡ batches (last_row_stamp rows) t.made.place t.made.taken
  pub dumps : v.dumps ≡ w.dumps ++ t.dumps
  pub acknowledged : t.acknowledged ≡ pages_acknowledged f t.made.said w
  pub harmed : v.harmed ≡ w.harmed + t.harmed
  pub gained : length after ≡ length rows + t.gained

-- a round ended by this stop
abbrev pub EndsStopped : Option Stop → Ending → Type 0
EndsStopped None end = ⊥
EndsStopped (Some s) end = end ≡ Ending.Stopped s.change

-- What a line tells of the attempts of a round, from that line and some rows to a line and the rows that are left. One
-- behind which another was made kept all its batches.
abbrev pub AreLineAttempts : StationSettings → FatesByNumber → List Row → Line → List LineAttempt → List Row → Line
    → Type 0
AreLineAttempts settings f rows w [] left v = (left ≡ rows) × (v ≡ w)
AreLineAttempts settings f rows w (t ∷ ts) left v =
    (after : List Row) × (u : Line) × IsLineAttempt f rows w t after u
    × (ts ≢ [] → after ≡ rows ++ stored_rows settings (records_in t.batches))
    × AreLineAttempts settings f after u ts left v

-- the line as a round ends: the records that have not fallen due do so now
abbrev pub finished : (ℕ → List (List ℕ)) → Line → Line
finished left v = waited (left v.messages) v
