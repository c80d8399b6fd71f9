-- What a pump holds of where its attempt stands.
use Rattle.std.specs.Prelude.{◌≡◌, ◌≢◌, ℕ, ◌+◌, ◌-◌, ◌*◌, ◌^◌, ◌<◌, ◌≤◌, Bool, true, false, List, [], ◌∷◌, ◌++◌}
use Rattle.std.specs.Prelude.{length, take, Option, Some, None}
use Rattle.station_base.specs.CivilMinute.{CivilMinute}
use Rattle.wake_retry.specs.Parts.{settled_waits}
use Rattle.wake_retry.specs.Settling.{tail_of}
use Rattle.causes.specs.declared.stored.Stored.{Stored}
use Rattle.causes.specs.declared.stored.Stored.TheVariants as stored
use Rattle.vantage_frames.specs.Header.{most_pages}
use Rattle.vantage_frames.specs.Slots.{page_size}
use Rattle.dmpaft_pump.specs.declared.outcome.Tally.{Tally}
use Rattle.dmpaft_pump.specs.declared.phase.Phase.{Phase}
use Rattle.dmpaft_pump.specs.declared.pump_end.PumpEnd.{PumpEnd}
use Rattle.dmpaft_pump.specs.declared.pump_end.PumpEnd.TheVariants as pump_end
use Rattle.dmpaft_pump.specs.declared.stage.Stage.{Stage}
use Rattle.dmpaft_pump.specs.declared.stage.Stage.TheVariants as stage
use Rattle.dmpaft_pump.specs.declared.pump.Pump.{Pump}
use Rattle.dmpaft_pump.specs.declared.action.Action.{Action}
use Rattle.dmpaft_pump.specs.declared.action.Action.TheVariants as action
use Rattle.dmpaft_pump.specs.Keeper.{Handed, kept_all, last_kept}
use Rattle.dmpaft_pump.specs.Batch.{page_slots, slots_in_page, newest, skipped, batches, answered_batches, all_skipped}
use Rattle.dmpaft_pump.specs.Batch.{EndsGiving}
use Rattle.dmpaft_pump.specs.Phases.{part_of_phase, quiets_of, most_bytes_of, words_of_phase, span_of, rest_of}
use Rattle.dmpaft_pump.specs.Phases.{phase_settles, PhaseFits, PhaseSpeaks}
use Rattle.dmpaft_pump.specs.Phases.{PhaseHears, closing_steps, page_steps}
use Rattle.dmpaft_pump.specs.Pump.{words as words_in}
use Rattle.dmpaft_pump.specs.Pump.{AttemptPart, AttemptState, Hearing, Keeping, Over, begun, most, newest_in_pages}
use Rattle.dmpaft_pump.specs.Pump.{next_place, batch_of}

-- nothing was counted
abbrev pub no_tally : Tally
no_tally = record { pages = 0; skipped = 0; last = None }

-- the batches of these pages, each kept
abbrev pub all_kept : Option CivilMinute → ℕ → List (List ℕ) → Handed
all_kept after place taken = kept_all (batches after place taken)

-- Pages and skipped slots are counted on from a first tally, and the last record kept is that of these batches.
pub record Tallied (start : Tally) (after : Option CivilMinute) (place : ℕ) (taken : List (List ℕ))
    (steps : Handed) (pump : Pump) : Type 0 where
  pub asked : pump.after ≡ after
  pub bounded : length taken ≤ most_pages
  pub pages : pump.tally.pages ≡ start.pages + length taken
  pub skipped : pump.tally.skipped ≡ start.skipped + all_skipped place taken
  pub last : pump.tally.last ≡ last_kept steps start.last

-- And what is needed for the next page.
pub record PumpCounts (start : Tally) (after : Option CivilMinute) (place : ℕ) (taken : List (List ℕ))
    (steps : Handed) (pump : Pump) : Type 0 where
  pub tallied : Tallied start after place taken steps pump
  pub number : pump.number ≡ length taken
  pub from : pump.from ≡ next_place place taken
  pub low : pump.from ≤ 4
  pub newest : pump.newest ≡ newest_in_pages after place taken
  pub few : start.pages < 2 ^ 31
  pub rare : start.skipped < 2 ^ 31

-- The records of a page were gathered, and it is not counted yet.
pub record PageIsGathered (start : Tally) (after : Option CivilMinute) (place : ℕ) (taken : List (List ℕ))
    (page : List ℕ) (skips : ℕ) (pump : Pump) : Type 0 where
  pub tallied : Tallied start after place taken (all_kept after place taken) pump
  pub number : pump.number ≡ length taken
  pub newest : pump.newest ≡ newest (newest_in_pages after place taken) (slots_in_page (next_place place taken) page)
  pub few : start.pages < 2 ^ 31
  pub rare : start.skipped < 2 ^ 31
  pub missed : skips ≡ skipped (slots_in_page (next_place place taken) page)
  pub batch : pump.batch ≡ batch_of after place taken page

-- of the bytes heard the last two, or all
abbrev pub HasHeard : Bool → List ℕ → Pump → Type 0
HasHeard true bytes pump = pump.tail ≡ tail_of bytes
HasHeard false bytes pump = take (length bytes) pump.answer ≡ bytes

-- so many bytes are as many as can be heard, or fewer
abbrev pub IsSized : Bool → ℕ → ℕ → Type 0
IsSized true n most = n ≡ most
IsSized false n most = n < most

-- A part has heard these bytes to its end, whether as many as it can.
pub record PartIsReady (start : Tally) (after : Option CivilMinute) (place : ℕ) (taken : List (List ℕ)) (phase : Phase)
    (full : Bool) (bytes : List ℕ) (pump : Pump) : Type 0 where
  pub counts : PumpCounts start after place taken (all_kept after place taken) pump
  pub fits : PhaseFits phase place taken
  pub hears : PhaseHears phase
  pub count : pump.count ≡ length bytes
  pub sized : IsSized full (length bytes) (most_bytes_of phase)
  pub heard : HasHeard (phase_settles phase) bytes pump

-- the answers by which an attempt ends so
abbrev pub pump_answer : PumpEnd → Stored
pump_answer pump_end.Whole = stored.Done
pump_answer (pump_end.Failed trouble) = stored.Done
pump_answer pump_end.Full = stored.Full
pump_answer pump_end.Stale = stored.Stale
pump_answer pump_end.DiskFault = stored.DiskFault
pump_answer pump_end.Flood = stored.Done

-- The words of a part are to be said.
pub record IsSaying (start : Tally) (after : Option CivilMinute) (phase : Phase) (s : AttemptState)
    (pump : Pump) : Type 0 where
  pub place : ℕ
  pub taken : List (List ℕ)
  pub is : s ≡ begun after (part_of_phase place taken phase)
  pub counts : PumpCounts start after place taken (all_kept after place taken) pump
  pub fits : PhaseFits phase place taken
  pub speaks : PhaseSpeaks phase
  pub count : pump.count ≡ 0
  pub run : pump.run ≡ 0
  pub tail : pump.tail ≡ 0 ∷ 0 ∷ []

-- A part hears.
pub record IsHearing (start : Tally) (after : Option CivilMinute) (phase : Phase) (s : AttemptState)
    (pump : Pump) : Type 0 where
  pub place : ℕ
  pub taken : List (List ℕ)
  pub bytes : List ℕ
  pub is : s ≡ Hearing (part_of_phase place taken phase) bytes pump.run
  pub run : pump.run < quiets_of phase
  pub ready : PartIsReady start after place taken phase false bytes pump

-- The keeper has a batch.
pub record IsKeeping (start : Tally) (after : Option CivilMinute) (more : ℕ) (s : AttemptState)
    (pump : Pump) : Type 0 where
  pub place : ℕ
  pub taken : List (List ℕ)
  pub page : List ℕ
  pub is : s ≡ Keeping more place taken page
  pub counts : PumpCounts start after place (taken ++ page ∷ []) (all_kept after place taken) pump
  pub batch : pump.batch ≡ batch_of after place taken page
  pub some : batch_of after place taken page ≢ []
  pub fits : length taken + more < most_pages

-- The attempt is over.
pub record AttemptIsOver (start : Tally) (after : Option CivilMinute) (end : PumpEnd) (s : AttemptState)
    (pump : Pump) : Type 0 where
  pub place : ℕ
  pub taken : List (List ℕ)
  pub is : s ≡ Over place taken end
  pub tallied : Tallied start after place taken (answered_batches (pump_answer end) (batches after place taken)) pump
  -- a batch that was refused is that of the last page
  pub gives : pump_answer end ≢ stored.Done → EndsGiving after place taken

-- what a pump holds at a stage of the attempt
abbrev pub ShowsAt : Stage → Tally → Option CivilMinute → AttemptState → Pump → Type 0
ShowsAt (stage.Saying phase) start after s pump = IsSaying start after phase s pump
ShowsAt (stage.Hearing phase) start after s pump = IsHearing start after phase s pump
ShowsAt (stage.Keeping more) start after s pump = IsKeeping start after more s pump
ShowsAt (stage.Ended end) start after s pump = AttemptIsOver start after end s pump

-- A pump that asks after this stamp, and whose tally goes on from this one, is where the attempt stands.
abbrev pub PumpShows : Tally → Option CivilMinute → AttemptState → Pump → Type 0
PumpShows start after s pump = ShowsAt pump.stage start after s pump

-- so many bytes can be heard at a stage after so many
abbrev pub room_at : Stage → ℕ → ℕ
room_at (stage.Saying phase) count = 0
room_at (stage.Hearing phase) count = most_bytes_of phase - count
room_at (stage.Keeping more) count = 0
room_at (stage.Ended end) count = 0

-- so many bytes it can hear
abbrev pub room_of : Pump → ℕ
room_of pump = room_at pump.stage pump.count

-- what it is to say
abbrev pub said_at : Option CivilMinute → Stage → List ℕ
said_at after (stage.Saying phase) = words_of_phase after phase
said_at after (stage.Hearing phase) = []
said_at after (stage.Keeping more) = []
said_at after (stage.Ended end) = []

-- a batch is with the keeper
abbrev pub keeps_at : Stage → Bool
keeps_at (stage.Saying phase) = false
keeps_at (stage.Hearing phase) = false
keeps_at (stage.Keeping more) = true
keeps_at (stage.Ended end) = false

-- how the attempt ended, if it is over
abbrev pub end_at : Stage → Option PumpEnd
end_at (stage.Saying phase) = None
end_at (stage.Hearing phase) = None
end_at (stage.Keeping more) = None
end_at (stage.Ended end) = Some end

-- it says or hears something
abbrev pub talks_at : Stage → Bool
talks_at (stage.Saying phase) = true
talks_at (stage.Hearing phase) = true
talks_at (stage.Keeping more) = false
talks_at (stage.Ended end) = false

-- An action fits the pump.
abbrev pub Allows : Option CivilMinute → Pump → Action → Type 0
Allows after pump (action.Say words) = (words.items ≡ said_at after pump.stage) × (0 < length words.items)
Allows after pump (action.Listen n) = (1 ≤ n) × (n ≤ room_of pump) × (n ≤ page_size)
Allows after pump (action.Keep rows) = (keeps_at pump.stage ≡ true) × (rows.now ≡ pump.batch)
    × (length rows.now ≤ page_slots)
Allows after pump (action.Ended end) = pump.stage ≡ stage.Ended end

-- An action is that of where the attempt stands.
abbrev pub PumpTells : Option CivilMinute → AttemptState → Action → Type 0
PumpTells after s (action.Say words) =
    (part : AttemptPart) × (s ≡ begun after part) × (words.items ≡ words_in after part)
PumpTells after s (action.Listen n) = (part : AttemptPart) × (bytes : List ℕ) × (run : ℕ) × (s ≡ Hearing part bytes run)
    × (length bytes + n ≤ most part)
PumpTells after s (action.Keep rows) = (more : ℕ) × (place : ℕ) × (taken : List (List ℕ)) × (page : List ℕ)
    × (s ≡ Keeping more place taken page) × (rows.now ≡ batch_of after place taken page)
    × (batch_of after place taken page ≢ [])
PumpTells after s (action.Ended end) = (place : ℕ) × (taken : List (List ℕ)) × (s ≡ Over place taken end)

-- what is left of the part under way, and then of those that may follow it
abbrev pub left_at : Stage → ℕ → ℕ → ℕ
left_at (stage.Saying phase) count run = rest_of phase + span_of phase
left_at (stage.Hearing phase) count run =
    rest_of phase + (settled_waits + 1) * (most_bytes_of phase - count) + (quiets_of phase - run)
left_at (stage.Keeping more) count run = page_steps * more + closing_steps
left_at (stage.Ended end) count run = 0

-- so many steps are left at most
abbrev pub steps_left : Pump → ℕ
steps_left pump = left_at pump.stage pump.count pump.run

-- it stands where some attempt does
abbrev pub PumpStands : Pump → Type 0
PumpStands pump = (start : Tally) × (after : Option CivilMinute) × (s : AttemptState) × PumpShows start after s pump
