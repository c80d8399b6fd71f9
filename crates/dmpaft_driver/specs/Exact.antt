-- When a pump has ended: exactly after an attempt.
use Rattle.std.specs.Prelude.{◌≡◌, ◌≢◌, ◌⊎◌, ℕ, List, [], ◌∷◌, ◌++◌, Option}
use Rattle.station_base.specs.CivilMinute.{CivilMinute}
use Rattle.vantage_frames.specs.StampFrame.{stamp_frame_of}
use Rattle.serial_link.specs.declared.talk.TalkItem.{TalkItem}
use Rattle.causes.specs.declared.stored.Stored.{Stored}
use Rattle.causes.specs.declared.stored.Stored.TheVariants as stored
use Rattle.dmpaft_pump.specs.declared.pump_end.PumpEnd.{PumpEnd}
use Rattle.dmpaft_pump.specs.declared.pump_end.PumpEnd.TheVariants as pump_end
use Rattle.dmpaft_driver.specs.Attempt.{End, Attempt}
use Rattle.dmpaft_pump.specs.Batch.{EndsGiving}
use Rattle.dmpaft_pump.specs.Pump.{AttemptState, Over, Astray, attempt_step, answer_taken, pump_after}

-- the end of an attempt that a pump has taken
abbrev pub attempt_end : PumpEnd → End
attempt_end pump_end.Whole = End.Whole
attempt_end (pump_end.Failed trouble) = End.Failed trouble
attempt_end pump_end.Full = End.Refused
attempt_end pump_end.Stale = End.Refused
attempt_end pump_end.DiskFault = End.Refused
attempt_end pump_end.Flood = End.Flooded

-- each batch was kept
abbrev pub AllDone : List Stored → Type 0
AllDone [] = Unit {0}
AllDone (answer ∷ answers) = (answer ≡ stored.Done) × AllDone answers

-- an attempt that was refused gave a batch last
abbrev pub RefusesGiven : Option CivilMinute → ℕ → List (List ℕ) → End → Type 0
RefusesGiven after place taken end = end ≡ End.Refused → EndsGiving after place taken

-- a pump that has ended has taken an attempt
abbrev pub Sound : Option CivilMinute → Type 0
Sound after = (talk : List TalkItem) (answers : List Stored) (place : ℕ) (taken : List (List ℕ)) (end : PumpEnd)
    → pump_after after talk answers ≡ Over place taken end
    → Attempt (stamp_frame_of after) talk place taken (attempt_end end)

-- an attempt ends the pump that takes it, at its place where it took a page
abbrev pub Complete : Option CivilMinute → Type 0
Complete after = (talk : List TalkItem) (place : ℕ) (taken : List (List ℕ)) (end : PumpEnd)
    → Attempt (stamp_frame_of after) talk place taken (attempt_end end)
    → RefusesGiven after place taken (attempt_end end)
    → (answers : List Stored) × (at : ℕ) × (pump_after after talk answers ≡ Over at taken end)
    × ((taken ≡ []) ⊎ (place ≡ at)) × (attempt_end end ≢ End.Refused → AllDone answers)

-- where each batch was kept and the pump stands so, an item that it does not allow begins no rest of an attempt that
-- no refusal ends
abbrev pub Stuck : Option CivilMinute → Type 0
Stuck after = (talk : List TalkItem) (answers : List Stored) (s : AttemptState) (i : TalkItem)
    → pump_after after talk answers ≡ s → AllDone answers → s ≢ Astray
    → ((more : List Stored) → attempt_step after (answer_taken after s more) i ≡ Astray)
    → (rest : List TalkItem) (place : ℕ) (taken : List (List ℕ)) (end : End) → end ≢ End.Refused
    → Attempt (stamp_frame_of after) (talk ++ i ∷ rest) place taken end → ⊥
