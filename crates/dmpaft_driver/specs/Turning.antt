-- One turn of a pump with a link and a keeper.
use Rattle.std.specs.Prelude.{◌≡◌, ◌≢◌, ◌⊎◌, ℕ, ◌+◌, ◌≤◌, true, List, [], ◌∷◌, map, Option, Some, None}
use Rattle.station_base.specs.CivilMinute.{CivilMinute}
use Rattle.archive_record.specs.Reading.{stamp_in}
use Rattle.serial_link.specs.declared.talk.TalkItem.{TalkItem}
use Rattle.serial_link.specs.declared.talk.TalkItem.TheVariants.{Heard, Quiet}
use Rattle.serial_link.specs.Traffic.{Traffic}
use Rattle.serial_link.specs.Talk.{message, Adds}
use Rattle.dmpaft_pump.specs.Ledger.{Ledger}
use Rattle.causes.specs.declared.stored.Stored.{Stored}
use Rattle.dmpaft_pump.specs.declared.outcome.DumpEnd.{DumpEnd}
use Rattle.dmpaft_pump.specs.declared.outcome.DumpEnd.TheVariants as dump_end
use Rattle.dmpaft_pump.specs.declared.outcome.Tally.{Tally}
use Rattle.dmpaft_pump.specs.declared.pump_end.PumpEnd.{PumpEnd}
use Rattle.dmpaft_pump.specs.declared.pump_end.PumpEnd.TheVariants as pump_end
use Rattle.dmpaft_pump.specs.declared.pump.Pump.{Pump}
use Rattle.dmpaft_pump.specs.Keeper.{Handed, count, last_kept}
use Rattle.station_base.specs.LastStamp.{Rises}
use Rattle.dmpaft_driver.specs.Outcome.{EndsSaying}
use Rattle.dmpaft_pump.specs.Pump.{AttemptState, Keeping, Over, batch_of, pump_from}
use Rattle.dmpaft_pump.specs.Shown.{PumpShows, keeps_at, talks_at}
use Rattle.dmpaft_driver.specs.Standing.{HasTaken, AttemptCanEnd, gives}

-- the keeper can take the batch, if there is one now
abbrev pub Suits : Option CivilMinute → ℕ → Pump → Type 0
Suits last room pump = keeps_at pump.stage ≡ true → Rises stamp_in last pump.batch × (1 ≤ room)

-- the end of a dump whose pump ends so
abbrev pub dump_end_of : PumpEnd → DumpEnd
dump_end_of pump_end.Whole = dump_end.Whole
dump_end_of (pump_end.Failed trouble) = dump_end.Failed trouble
dump_end_of pump_end.Full = dump_end.Full
dump_end_of pump_end.Stale = dump_end.Stale
dump_end_of pump_end.DiskFault = dump_end.DiskFault
dump_end_of pump_end.Flood = dump_end.Flood

-- the link's own ends
abbrev pub DumpIsCut : DumpEnd → Type 0
DumpIsCut end = (end ≡ dump_end.LinkFault) ⊎ (end ≡ dump_end.OutOfMemory)

-- nothing more is to be done
abbrev pub EndsAt : DumpEnd → AttemptState → List TalkItem → List Stored → Type 0
EndsAt end s talk answers = (place : ℕ) × (taken : List (List ℕ)) × (e : PumpEnd) × (s ≡ Over place taken e)
    × (end ≡ dump_end_of e) × (talk ≡ []) × (answers ≡ [])

-- no page is taken by these items, and the attempt might still end after them
abbrev pub AttemptStays : Option CivilMinute → AttemptState → List TalkItem → Type 0
AttemptStays after s talk = (place : ℕ) (taken : List (List ℕ)) → HasTaken s place taken
    → HasTaken (pump_from after s talk []) place taken × AttemptCanEnd after (pump_from after s talk []) place taken

-- where it is over after these items, a message was said last
abbrev pub SaysLast : Option CivilMinute → AttemptState → List TalkItem → Type 0
SaysLast after s talk = (place : ℕ) (taken : List (List ℕ)) (end : PumpEnd)
    → pump_from after s talk [] ≡ Over place taken end → EndsSaying talk

-- the link failed, and no page was taken by what was said
abbrev pub CutsAt : DumpEnd → Option CivilMinute → AttemptState → List TalkItem → List Stored → Pump → Type 0
CutsAt end after s talk answers pump = DumpIsCut end × (answers ≡ []) × (talks_at pump.stage ≡ true)
    × AttemptStays after s talk × SaysLast after s talk

-- one message was said, or some bytes were heard, or one wait passed
abbrev pub IsOneLinkCall : List TalkItem → Type 0
IsOneLinkCall talk = ((bytes : List ℕ) × (bytes ≢ []) × ((talk ≡ message bytes) ⊎ (talk ≡ map Heard bytes)))
    ⊎ (talk ≡ Quiet ∷ [])

-- one message was said, some bytes were heard or one wait passed, or one batch was answered
abbrev pub IsOneStep : Option CivilMinute → AttemptState → List TalkItem → List Stored → Type 0
IsOneStep after s talk answers = ((answers ≡ []) × IsOneLinkCall talk)
    ⊎ ((talk ≡ []) × (answer : Stored) × (answers ≡ answer ∷ [])
    × (more : ℕ) × (place : ℕ) × (taken : List (List ℕ)) × (page : List ℕ)
    × (s ≡ Keeping more place taken page) × (batch_of after place taken page ≢ []))

-- where the attempt stands after a turn
abbrev pub AttemptTurnsTo : Option DumpEnd → Tally → Option CivilMinute → AttemptState → List TalkItem → List Stored
    → Pump
    → Pump → Type 0
AttemptTurnsTo None start after s talk answers pump pump' = PumpShows start after (pump_from after s talk answers) pump'
    × IsOneStep after s talk answers
AttemptTurnsTo (Some end) start after s talk answers pump pump' = (pump' ≡ pump) × (EndsAt end s talk answers
    ⊎ CutsAt end after s talk answers pump)

-- What a turn works on: a pump, a link and a keeper.
pub record DumpDesk (L K : Type 0) : Type 0 where
  pub pump : Pump
  pub link : L
  pub keeper : K

-- a pump, a link and a keeper as one value
abbrev pub dump_desk : {L K : Type 0} → Pump → L → K → DumpDesk L K
dump_desk pump link keeper = record { pump = pump; link = link; keeper = keeper }

-- One turn from where the attempt stands: what was said and heard, what the keeper was given, and where it stands then.
pub record Turns {L K : Type 0} (traffic : Traffic L) (ledger : Ledger K) (result : Option DumpEnd) (start : Tally)
    (after : Option CivilMinute) (s : AttemptState) (old new : DumpDesk L K) : Type 0 where
  pub said : List TalkItem
  pub answers : List Stored
  pub adds : Adds traffic old.link said new.link
  pub handed : ledger.keeps old.keeper (gives after s answers) new.keeper
  -- where nothing was handed over the keeper is the same
  pub still : gives after s answers ≡ Handed.Nothing → new.keeper ≡ old.keeper
  pub newest : ledger.last new.keeper ≡ last_kept (gives after s answers) (ledger.last old.keeper)
  pub few : ledger.room old.keeper ≤ ledger.room new.keeper + count (gives after s answers)
  pub turns : AttemptTurnsTo result start after s said answers old.pump new.pump

-- after a listening
abbrev pub ListensTo : Option DumpEnd → Tally → Option CivilMinute → AttemptState → List TalkItem → Pump → Pump → Type 0
ListensTo None start after s talk pump pump' =
    PumpShows start after (pump_from after s talk []) pump' × IsOneLinkCall talk
ListensTo (Some end) start after s talk pump pump' = (pump' ≡ pump) × DumpIsCut end × (talk ≡ [])
