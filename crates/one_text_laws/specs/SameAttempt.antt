-- Attempts over one line and one archive.
use Rattle.std.specs.Prelude.{◌≡◌, ◌≢◌, ℕ, ◌+◌, [], length}
use Rattle.std.specs.declared.option.Option.{Option}
use Rattle.station_base.specs.CivilMinute.{CivilMinute}
use Rattle.settings_file.specs.StationSettings.{StationSettings}
use Rattle.dmpaft_pump.specs.declared.outcome.DumpEnd.TheVariants as dump_end
use Rattle.station_session.specs.Attempts.{MadeAttempt, IsMadeAfter, batches_in}
use Rattle.station_session.specs.Batches.{Fit, kept_count}
use Rattle.schedule_file.specs.Fates.{FatesByNumber}
use Rattle.station_sim.specs.Line.{Line}
use Rattle.station_sim.specs.Talk.{ConsoleTalk}
use Rattle.schedule_file.specs.declared.schedule.step.Stop.{Stop}
use Rattle.replay_laws.specs.Keeping.{Archive}
use Rattle.replay_laws.specs.Session.{ComesAt, NotPast}

-- Two attempts are the same, except that the place is free of one that took no page.
pub record SameAttempt (t u : MadeAttempt) : Type 0 where
  pub said : t.said ≡ u.said
  pub taken : t.taken ≡ u.taken
  pub end : t.end ≡ u.end
  pub place : t.taken ≢ [] → t.place ≡ u.place

-- An attempt of a round after this stamp from this line to that one, so many batches of the round having been stored in
-- this archive. Neither the link nor its memory failed.
pub record AttemptOverLine (settings : StationSettings) (stop : Option Stop) (f : FatesByNumber) (stored : ℕ)
    (a : Archive) (after : Option CivilMinute) (w : Line) (t : MadeAttempt) (v : Line) : Type 0 where
  pub tried : IsMadeAfter after t
  pub linked : t.end ≢ dump_end.LinkFault
  pub found : t.end ≢ dump_end.OutOfMemory
  pub talks : ConsoleTalk f t.said w v
  -- each batch has room, but for one that is refused since the archive is full
  pub fits : Fit settings.most (length a.rows) (batches_in after t)
  -- no stop comes within the batches that were kept, and a fault of the disk is the stop
  pub not_past : NotPast stop (stored + kept_count (batches_in after t))
  pub stops : t.end ≡ dump_end.DiskFault → ComesAt stop (stored + kept_count (batches_in after t))
