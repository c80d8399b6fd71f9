-- What an attempt has taken where its pump stands.
use Rattle.std.specs.Prelude.{◌≡◌, ◌≢◌, ℕ, List, [], ◌∷◌, ◌++◌, Option}
use Rattle.station_base.specs.CivilMinute.{CivilMinute}
use Rattle.serial_link.specs.declared.talk.TalkItem.{TalkItem}
use Rattle.causes.specs.declared.stored.Stored.{Stored}
use Rattle.dmpaft_pump.specs.declared.pump_end.PumpEnd.{PumpEnd}
use Rattle.dmpaft_pump.specs.Keeper.{Handed, one_batch}
use Rattle.dmpaft_pump.specs.Batch.{batches, answered_batches}
use Rattle.dmpaft_driver.specs.Attempt.{End}
use Rattle.dmpaft_driver.specs.Exact.{attempt_end}
use Rattle.dmpaft_pump.specs.Shown.{all_kept, pump_answer}
use Rattle.dmpaft_pump.specs.Pump.{batch_of}
use Rattle.dmpaft_pump.specs.Pump.{pump_from, AttemptPart, Settling, Waking, Calling, Heading, Asking, Resettling}
use Rattle.dmpaft_pump.specs.Pump.{Acking, GivingUp, AttemptState, Saying, Hearing, Keeping, Over, Astray}

-- the place of the header, 0 before it
abbrev pub place_of_part : AttemptPart → ℕ
place_of_part Settling = 0
place_of_part (Waking left) = 0
place_of_part Calling = 0
place_of_part Heading = 0
place_of_part (Asking more place taken left b) = place
place_of_part (Resettling more place taken left b) = place
place_of_part (Acking place taken) = place
place_of_part (GivingUp place taken trouble) = place

-- the pages taken before it
abbrev pub taken_in : AttemptPart → List (List ℕ)
taken_in Settling = []
taken_in (Waking left) = []
taken_in Calling = []
taken_in Heading = []
taken_in (Asking more place taken left b) = taken
taken_in (Resettling more place taken left b) = taken
taken_in (Acking place taken) = taken
taken_in (GivingUp place taken trouble) = taken

-- these pages were taken, of the first from a place on
abbrev pub HasTaken : AttemptState → ℕ → List (List ℕ) → Type 0
HasTaken (Saying part i others) place taken = (place ≡ place_of_part part) × (taken ≡ taken_in part)
HasTaken (Hearing part bytes run) place taken = (place ≡ place_of_part part) × (taken ≡ taken_in part)
HasTaken (Keeping more at pages page) place taken = (place ≡ at) × (taken ≡ pages ++ page ∷ [])
HasTaken (Over at pages end) place taken = (place ≡ at) × (taken ≡ pages)
HasTaken Astray place taken = ⊥

-- the attempt might still end, with no page more and no refusal
abbrev pub AttemptCanEnd : Option CivilMinute → AttemptState → ℕ → List (List ℕ) → Type 0
AttemptCanEnd after s place taken = (rest : List TalkItem) × (answers : List Stored) × (end : PumpEnd)
    × (pump_from after s rest answers ≡ Over place taken end) × (attempt_end end ≢ End.Refused)

-- what was handed over so far
abbrev pub handed_over : Option CivilMinute → AttemptState → Handed
handed_over after (Saying part i others) = all_kept after (place_of_part part) (taken_in part)
handed_over after (Hearing part bytes run) = all_kept after (place_of_part part) (taken_in part)
handed_over after (Keeping more place taken page) = all_kept after place taken
handed_over after (Over place taken end) = answered_batches (pump_answer end) (batches after place taken)
handed_over after Astray = Handed.Nothing

-- what is handed over where it is answered so
abbrev pub gives : Option CivilMinute → AttemptState → List Stored → Handed
gives after (Saying part i others) answers = Handed.Nothing
gives after (Hearing part bytes run) answers = Handed.Nothing
gives after (Keeping more place taken page) [] = Handed.Nothing
gives after (Keeping more place taken page) (answer ∷ answers) = one_batch answer (batch_of after place taken page)
gives after (Over place taken end) answers = Handed.Nothing
gives after Astray answers = Handed.Nothing
