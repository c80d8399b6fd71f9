-- One step of the attempt under way, and what the round does then.
use Rattle.std.specs.Prelude.{◌≡◌, ◌⊎◌, ◌+◌, ◌*◌, ◌≤◌, List, [], ◌∷◌, ◌++◌, Option, Some, None, unwrap_or}
use Rattle.station_base.specs.CivilMinute.{CivilMinute}
use Rattle.serial_link.specs.declared.talk.TalkItem.{TalkItem}
use Rattle.serial_link.specs.Traffic.{Traffic}
use Rattle.serial_link.specs.Talk.{Adds}
use Rattle.disk_model.specs.Medium.{Medium}
use Rattle.settings_file.specs.StationSettings.{StationSettings}
use Rattle.weather_book.specs.Book.{spare}
use Rattle.causes.specs.declared.stored.Stored.{Stored}
use Rattle.dmpaft_pump.specs.declared.batch.TheConstants.{MOST_RECORDS}
use Rattle.dmpaft_pump.specs.declared.outcome.DumpEnd.{DumpEnd}
use Rattle.dmpaft_pump.specs.declared.outcome.Tally.{Tally}
use Rattle.dmpaft_pump.specs.declared.outcome.Trouble.{Trouble}
use Rattle.dmpaft_pump.specs.declared.pump.Pump.{Pump}
use Rattle.dmpaft_pump.specs.declared.pump_end.PumpEnd.{PumpEnd}
use Rattle.dmpaft_pump.specs.declared.pump_end.PumpEnd.TheVariants as pump_end
use Rattle.dmpaft_pump.specs.Keeper.{count}
use Rattle.dmpaft_pump.specs.Pump.{AttemptState, Settling, begun}
use Rattle.dmpaft_pump.specs.Shown.{PumpShows, end_at}
use Rattle.dmpaft_driver.specs.Standing.{gives}
use Rattle.dmpaft_driver.specs.Turning.{AttemptTurnsTo}
use Rattle.station_session.specs.declared.round.Round.{Round}
use Rattle.station_session.specs.declared.round.Turn.{Turn}
use Rattle.station_session.specs.declared.round.Turn.TheVariants as turn
use Rattle.station_session.specs.declared.round_end.RoundEnd.{RoundEnd}
use Rattle.station_session.specs.declared.round_end.RoundEnd.TheVariants as round_end
use Rattle.station_session.specs.Attempts.{end_after}
use Rattle.station_session.specs.Holding.{Holding}
use Rattle.station_session.specs.OneBatch.{AddsBatch, Chain}
use Rattle.station_session.specs.Troubles.{trouble_of}

-- what an attempt works on
pub record Bench (L D : Type 0) : Type 0 where
  pub pump : Pump
  pub link : L
  pub holding : Holding D

abbrev pub bench : {L D : Type 0} → Pump → L → Holding D → Bench L D
bench pump link holding = record { pump = pump; link = link; holding = holding }

-- One step of an attempt from where it stands: what was said and heard, the batch that the book was given, if one was,
-- and where the attempt stands then.
pub record StepsAttempt {L D : Type 0} (traffic : Traffic L) (medium : Medium D) (settings : StationSettings)
    (result : Option DumpEnd) (start : Tally) (after : Option CivilMinute) (s : AttemptState) (old new : Bench L D)
    : Type 0 where
  pub said : List TalkItem
  pub answers : List Stored
  pub adds : Adds traffic old.link said new.link
  pub chain : Chain (AddsBatch medium settings) old.holding (gives after s answers) new.holding
  pub spare : spare old.holding.book ≤ spare new.holding.book + MOST_RECORDS * count (gives after s answers)
  pub turns : AttemptTurnsTo result start after s said answers old.pump new.pump

-- how a round ends whose batch was refused, or met a disk fault
abbrev pub refused_by : PumpEnd → Option RoundEnd
refused_by pump_end.Full = Some round_end.ArchiveFull
refused_by pump_end.Stale = Some round_end.Stale
refused_by pump_end.DiskFault = Some round_end.DiskFault
refused_by pump_end.Whole = None
refused_by (pump_end.Failed trouble) = None
refused_by pump_end.Flood = None

-- how a round ends with an attempt that ends so, after which none follows
abbrev pub round_end_of : DumpEnd → RoundEnd
round_end_of end = unwrap_or (end_after end) round_end.GaveUp

-- the round stays as it is, where its attempt was not refused, nor failed with another to follow
abbrev pub StaysAt : Round → Round → Type 0
StaysAt old new = (new ≡ old) × ((e : PumpEnd) → end_at old.pump.stage ≡ Some e → refused_by e ≡ None)
    × ((trouble : Trouble) → end_at old.pump.stage ≡ Some (pump_end.Failed trouble) → old.more ≡ 0)

-- the attempt failed, and the next one begins after this stamp
abbrev pub TriesAgain : Option CivilMinute → Round → Round → Type 0
TriesAgain last old new = (trouble : Trouble) × (end_at old.pump.stage ≡ Some (pump_end.Failed trouble))
    × (old.more ≡ new.more + 1) × PumpShows old.pump.tally last (begun last Settling) new.pump
    × (new.troubles.items ≡ old.troubles.items ++ trouble ∷ [])

-- the round is over, since the batch of its attempt was refused
abbrev pub IsRefused : RoundEnd → Round → Round → Type 0
IsRefused end old new = (new ≡ old) × (e : PumpEnd) × (end_at old.pump.stage ≡ Some e) × (refused_by e ≡ Some end)

-- the round is the same, and what an attempt met that ended so is noted, if it failed
abbrev pub Notes : DumpEnd → Round → Round → Type 0
Notes end old new = (new.pump ≡ old.pump) × (new.more ≡ old.more)
    × (new.troubles.items ≡ old.troubles.items ++ trouble_of end)

-- what a round does after a step of its attempt, by the end that the step answered, if one
abbrev pub RoundGoesOn : Option DumpEnd → Turn → Option CivilMinute → Round → Round → Type 0
RoundGoesOn (Some end) result last old new = (result ≡ turn.Ended (round_end_of end)) × Notes end old new
RoundGoesOn None turn.More last old new = StaysAt old new ⊎ TriesAgain last old new
RoundGoesOn None (turn.Ended end) last old new = IsRefused end old new
