-- A session's round as a round of a run.
use Rattle.std.specs.Prelude.{◌≡◌, ℕ, ◌+◌, ◌-◌, ◌/◌, ◌≤◌, List, Some, None}
use Rattle.std.specs.declared.option.Option.{Option}
use Rattle.settings_file.specs.StationSettings.{StationSettings}
use Rattle.packed_rows.specs.Rising.{last_row_stamp}
use Rattle.station_session.specs.declared.round_end.RoundEnd.{RoundEnd}
use Rattle.station_session.specs.declared.round_end.RoundEnd.TheVariants as round_end
use Rattle.station_session.specs.Attempts.{MadeAttempt, all_batches}
use Rattle.schedule_file.specs.Fates.{FatesByNumber}
use Rattle.station_sim.specs.Line.{Line}
use Rattle.schedule_file.specs.declared.schedule.step.Stop.{Stop}
use Rattle.dmpaft_pump.specs.Keeper.{Refusal, Handed}
use Rattle.replay_laws.specs.Keeping.{Archive, appended, batches_before, stopped}
use Rattle.replay_laws.specs.Round.{Ending, LineAttempt, AreLineAttempts, EndsStopped, made_attempts}

-- what became of the batches of a round's attempts over an archive
abbrev pub given_in : Archive → List MadeAttempt → Handed
given_in a ts = all_batches (last_row_stamp a.rows) ts

-- no stop comes within the first batches, so many
abbrev pub NotPast : Option Stop → ℕ → Type 0
NotPast None kept = Unit {0}
NotPast (Some s) kept = kept ≤ batches_before s.change

-- the stop comes within the batch after so many
abbrev pub ComesAt : Option Stop → ℕ → Type 0
ComesAt None kept = ⊥
ComesAt (Some s) kept = batches_before s.change ≡ kept

-- What the disk's count of changes says of an armed stop, so many batches having been kept: no stop comes within them,
-- and a fault comes within the batch of the stop.
pub record RoundStopsAt (stop : Option Stop) (end : RoundEnd) (kept : ℕ) : Type 0 where
  pub before : NotPast stop kept
  pub at : end ≡ round_end.DiskFault → ComesAt stop kept

-- how the round of the run ends; no other end of a session's round is one of a run
abbrev pub RoundEndsAs : Option Stop → RoundEnd → Ending → Type 0
RoundEndsAs stop round_end.Done end = end ≡ Ending.Ok
RoundEndsAs stop round_end.GaveUp end = end ≡ Ending.GaveUp
RoundEndsAs stop round_end.ArchiveFull end = end ≡ Ending.Full
RoundEndsAs stop round_end.DiskFault end = EndsStopped stop end
RoundEndsAs stop other end = ⊥

-- the ends of a session's round that a run knows
abbrev pub IsKnown : RoundEnd → Type 0
IsKnown round_end.Done = Unit {0}
IsKnown round_end.GaveUp = Unit {0}
IsKnown round_end.ArchiveFull = Unit {0}
IsKnown round_end.DiskFault = Unit {0}
IsKnown other = ⊥

-- what a stop within a batch leaves, if there is one
abbrev pub stop_left : StationSettings → Option Stop → ℕ → Archive → List (List ℕ) → Archive
stop_left settings None stored a batch = a
stop_left settings (Some s) stored a batch = stopped settings s stored a batch

-- the archive after these batches, so many stored before
abbrev pub archive_left_after : StationSettings → Option Stop → ℕ → Archive → Handed → Archive
archive_left_after settings stop stored a Handed.Nothing = a
archive_left_after settings stop stored a (Handed.Kept rows more) =
    archive_left_after settings stop (stored + 1) (appended settings a rows) more
archive_left_after settings stop stored a (Handed.Refused rows Refusal.DiskFault) =
    stop_left settings stop stored a rows
archive_left_after settings stop stored a (Handed.Refused rows other) = a

-- These attempts of a session are those of a round of a run.
pub record AreRound (settings : StationSettings) (f : FatesByNumber) (stop : Option Stop) (a : Archive) (w : Line)
    (ts : List MadeAttempt) (end : RoundEnd) (v : Line) : Type 0 where
  pub tried : List LineAttempt
  pub made : made_attempts tried ≡ ts
  pub told : AreLineAttempts settings f a.rows w tried (archive_left_after settings stop 0 a (given_in a ts)).rows v
  pub ending : Ending
  pub ends : RoundEndsAs stop end ending
