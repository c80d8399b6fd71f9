-- The attempts of a round of a run, batch after batch, as the laws of a run take them.
use Rattle.std.proofs.Common.{◌≡◌, ℕ, ◌+◌, ◌-◌, ◌/◌, ◌<◌, ◌==◌, Bool, true, false, if◌then◌else◌, ◌⊎◌, List, [], ◌∷◌, length, Option, Some, None}
use Rattle.std.specs.Prelude.{nat_lt}
use Rattle.settings_file.specs.StationSettings.{StationSettings}
use Rattle.dmpaft_pump.specs.declared.outcome.DumpEnd.TheVariants as dump_end
use Rattle.dmpaft_pump.specs.declared.outcome.Trouble.{Trouble}
use Rattle.schedule_file.specs.Fates.{FatesByNumber}
use Rattle.station_sim.specs.Line.{Line}
use Rattle.schedule_file.specs.declared.schedule.step.Stop.{Stop}
use Rattle.replay_laws.specs.Keeping.{Archive, appended, batches_before, stopped, with_batch}
use Rattle.replay_laws.specs.Round.{Ending, LineAttempt, IsLineAttempt, EndsStopped}
use Rattle.packed_rows.specs.Rising.{last_row_stamp}
use Rattle.station_session.specs.Attempts.{IsMadeAfter, most_attempts}
use Rattle.station_base.specs.declared.row.Row.{Row}

-- what becomes of a batch
pub data Answer : Type 0 where
  Stored : (archive : Archive) → Answer
  Full : Answer
  Stops : (archive : Archive) → Answer

-- the stop, where it comes within the batch after so many
abbrev pub reached : Option Stop → ℕ → Option Stop
reached None stored = None
reached (Some s) stored = if batches_before s.change == stored then Some s else None

abbrev pub answer_by : Bool → Option Stop → StationSettings → ℕ → Archive → List (List ℕ) → Answer
answer_by true s settings stored a batch = Full
answer_by false None settings stored a batch = Stored (appended settings a batch)
answer_by false (Some s) settings stored a batch = Stops (stopped settings s stored a batch)

-- a batch, so many stored before it in this round: it is judged as full before the stop
abbrev pub answer : StationSettings → Option Stop → ℕ → Archive → List (List ℕ) → Answer
answer settings stop stored a batch = answer_by (nat_lt settings.most (length (with_batch settings a batch)))
    (reached stop stored) settings stored a batch

-- how the keeping of an attempt's batches ends: all stored, or a refusal at the last
pub data Keeping : Type 0 where
  Goes : (stored : ℕ) → (archive : Archive) → Keeping
  Fills : (archive : Archive) → Keeping
  -- what stood before the batch of the stop, and what the stop left
  Breaks : (before : Archive) → (after : Archive) → Keeping

-- the batches of an attempt, one after another
abbrev pub Keeps : StationSettings → Option Stop → ℕ → Archive → List (List (List ℕ)) → Keeping → Type 0
Keeps settings stop stored a [] k = k ≡ Keeping.Goes stored a
Keeps settings stop stored a (batch ∷ more) k =
    ((b : Archive) × (answer settings stop stored a batch ≡ Answer.Stored b)
    × Keeps settings stop (stored + 1) b more k)
    ⊎ ((answer settings stop stored a batch ≡ Answer.Full) × (more ≡ []) × (k ≡ Keeping.Fills a))
    ⊎ ((b : Archive) × (answer settings stop stored a batch ≡ Answer.Stops b) × (more ≡ []) × (k ≡ Keeping.Breaks a b))

-- An attempt over a line, made after the last of the rows: the rules say the latter of the attempts of a session.
pub record IsMadeOver (f : FatesByNumber) (rows : List Row) (w : Line) (t : LineAttempt) (after : List Row) (u : Line) : Type 0 where
  pub attempt : IsMadeAfter (last_row_stamp rows) t.made
  pub over : IsLineAttempt f rows w t after u

-- The attempts of a round from here, n made and so many batches stored before: how it ends, what
-- was kept before the end, what is left of the archive, and the line.
abbrev pub Tries : StationSettings → FatesByNumber → Option Stop → ℕ → ℕ → Archive → Line → List LineAttempt → Ending
    → Archive → Archive → Line → Type 0
Tries settings f stop n stored a w [] end kept left v = (n ≡ most_attempts) × (end ≡ Ending.GaveUp) × (kept ≡ a) × (left ≡ a)
    × (v ≡ w)
Tries settings f stop n stored a w (t ∷ ts) end kept left v = (n < most_attempts) × ((u : Line) × (b : Archive)
    × IsMadeOver f a.rows w t b.rows u
    × (((m : ℕ) × Keeps settings stop stored a t.batches (Keeping.Goes m b) × ((trouble : Trouble) × (t.made.end
    ≡ dump_end.Failed trouble)) × Tries settings f stop (n + 1) m b u ts end kept left v)
    ⊎ ((m : ℕ) × Keeps settings stop stored a t.batches (Keeping.Goes m b) × (t.made.end ≡ dump_end.Whole) × (ts
    ≡ []) × (end ≡ Ending.Ok) × (kept ≡ b) × (left ≡ b) × (v ≡ u))
    ⊎ (Keeps settings stop stored a t.batches (Keeping.Fills b) × (t.made.end ≡ dump_end.Full) × (ts ≡ []) × (end
    ≡ Ending.Full) × (kept ≡ b) × (left ≡ b) × (v ≡ u))
    ⊎ (Keeps settings stop stored a t.batches (Keeping.Breaks kept b) × (t.made.end ≡ dump_end.DiskFault) × (ts
    ≡ []) × EndsStopped stop end × (left ≡ b) × (v ≡ u))))
