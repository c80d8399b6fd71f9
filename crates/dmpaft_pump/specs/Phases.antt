-- The parts of an attempt as a pump has them, which tells place and pages apart.
use Rattle.std.specs.Prelude.{◌≡◌, ℕ, ◌+◌, ◌-◌, ◌*◌, ◌^◌, ◌<◌, Bool, true, false, List, [], ◌∷◌, length, Option}
use Rattle.station_base.specs.CivilMinute.{CivilMinute}
use Rattle.vantage_frames.specs.StampFrame.{stamp_frame_of}
use Rattle.vantage_frames.specs.Header.{most_pages}
use Rattle.vantage_frames.specs.Slots.{page_size}
use Rattle.wake_retry.specs.Parts.{flood_size, answer_waits, settled_waits, wake_tries}
use Rattle.dmpaft_pump.specs.declared.phase.Phase.{Phase}
use Rattle.dmpaft_pump.specs.declared.phase.Phase.TheVariants as phase
use Rattle.dmpaft_pump.specs.Command.{dmpaft}
use Rattle.dmpaft_pump.specs.Pump.{most_askings, AttemptPart, Settling, Waking, Calling, Heading, Asking, Resettling}
use Rattle.dmpaft_pump.specs.Pump.{Acking, GivingUp}

-- the part after these pages
abbrev pub part_of_phase : ℕ → List (List ℕ) → Phase → AttemptPart
part_of_phase place taken phase.Settling = Settling
part_of_phase place taken (phase.Waking left) = Waking left
part_of_phase place taken phase.Calling = Calling
part_of_phase place taken phase.Heading = Heading
part_of_phase place taken (phase.Asking more left said) = Asking more place taken left said
part_of_phase place taken (phase.Resettling more left said) = Resettling more place taken left said
part_of_phase place taken phase.Acking = Acking place taken
part_of_phase place taken (phase.GivingUp trouble) = GivingUp place taken trouble

-- so many quiet waits in a row end what it hears
abbrev pub quiets_of : Phase → ℕ
quiets_of phase.Settling = settled_waits
quiets_of (phase.Waking left) = answer_waits
quiets_of phase.Calling = answer_waits
quiets_of phase.Heading = answer_waits
quiets_of (phase.Asking more left said) = answer_waits
quiets_of (phase.Resettling more left said) = settled_waits
quiets_of phase.Acking = answer_waits
quiets_of (phase.GivingUp trouble) = answer_waits

-- so many bytes end what it hears
abbrev pub most_bytes_of : Phase → ℕ
most_bytes_of phase.Settling = flood_size
most_bytes_of (phase.Waking left) = flood_size
most_bytes_of phase.Calling = 1
most_bytes_of phase.Heading = 7
most_bytes_of (phase.Asking more left said) = page_size
most_bytes_of (phase.Resettling more left said) = flood_size
most_bytes_of phase.Acking = 1
most_bytes_of (phase.GivingUp trouble) = 1

-- what it says
abbrev pub words_of_phase : Option CivilMinute → Phase → List ℕ
words_of_phase after phase.Settling = []
words_of_phase after (phase.Waking left) = 10 ∷ []
words_of_phase after phase.Calling = dmpaft
words_of_phase after phase.Heading = stamp_frame_of after
words_of_phase after (phase.Asking more left said) = said ∷ []
words_of_phase after (phase.Resettling more left said) = []
words_of_phase after phase.Acking = 6 ∷ []
words_of_phase after (phase.GivingUp trouble) = 27 ∷ []

-- only the last bytes of what it hears matter
abbrev pub phase_settles : Phase → Bool
phase_settles phase.Settling = true
phase_settles (phase.Waking left) = true
phase_settles phase.Calling = false
phase_settles phase.Heading = false
phase_settles (phase.Asking more left said) = false
phase_settles (phase.Resettling more left said) = true
phase_settles phase.Acking = false
phase_settles (phase.GivingUp trouble) = false

-- before the header there is no place and no page; while a page is asked for, it and those after it are not too many
abbrev pub PhaseFits : Phase → ℕ → List (List ℕ) → Type 0
PhaseFits phase.Settling place taken = (place ≡ 0) × (taken ≡ [])
PhaseFits (phase.Waking left) place taken = (place ≡ 0) × (taken ≡ [])
PhaseFits phase.Calling place taken = (place ≡ 0) × (taken ≡ [])
PhaseFits phase.Heading place taken = (place ≡ 0) × (taken ≡ [])
PhaseFits (phase.Asking more left said) place taken = length taken + more < most_pages
PhaseFits (phase.Resettling more left said) place taken = length taken + more < most_pages
PhaseFits phase.Acking place taken = Unit {0}
PhaseFits (phase.GivingUp trouble) place taken = Unit {0}

-- a phase that hears something
abbrev pub PhaseHears : Phase → Type 0
PhaseHears phase.Settling = Unit {0}
PhaseHears (phase.Waking left) = Unit {0}
PhaseHears phase.Calling = Unit {0}
PhaseHears phase.Heading = Unit {0}
PhaseHears (phase.Asking more left said) = Unit {0}
PhaseHears (phase.Resettling more left said) = Unit {0}
PhaseHears phase.Acking = ⊥
PhaseHears (phase.GivingUp trouble) = ⊥

-- a phase that says something
abbrev pub PhaseSpeaks : Phase → Type 0
PhaseSpeaks phase.Settling = ⊥
PhaseSpeaks (phase.Waking left) = Unit {0}
PhaseSpeaks phase.Calling = Unit {0}
PhaseSpeaks phase.Heading = Unit {0}
PhaseSpeaks (phase.Asking more left said) = Unit {0}
PhaseSpeaks (phase.Resettling more left said) = ⊥
PhaseSpeaks phase.Acking = Unit {0}
PhaseSpeaks (phase.GivingUp trouble) = Unit {0}

-- a part that hears up to a flood takes fewer steps than this
abbrev pub settling_steps : ℕ
settling_steps = 500000

-- a part that hears at most a page takes fewer steps than this
abbrev pub answer_steps : ℕ
answer_steps = 2000

-- more steps than a phase takes: its words are said, and then each byte and each wait is heard
abbrev pub span_of : Phase → ℕ
span_of phase.Settling = settling_steps
span_of (phase.Waking left) = settling_steps
span_of phase.Calling = answer_steps
span_of phase.Heading = answer_steps
span_of (phase.Asking more left said) = answer_steps
span_of (phase.Resettling more left said) = settling_steps
span_of phase.Acking = answer_steps
span_of (phase.GivingUp trouble) = answer_steps

-- another asking for a page, with the settling before it
abbrev pub steps_of_an_asking : ℕ
steps_of_an_asking = settling_steps + answer_steps

-- behind the answer to an asking: the batch of a page is kept, and the attempt ends
abbrev pub closing_steps : ℕ
closing_steps = answer_steps + 1

-- a page with its askings and settlings takes at most so many steps
abbrev pub page_steps : ℕ
page_steps = answer_steps + steps_of_an_asking * (most_askings - 1) + closing_steps

-- an attempt takes fewer steps than this
abbrev pub attempt_steps : ℕ
attempt_steps = 2 ^ 30

-- so many steps may follow it at most
abbrev pub rest_of : Phase → ℕ
rest_of phase.Settling = most_pages * page_steps + 2 * answer_steps + settling_steps * wake_tries
rest_of (phase.Waking left) = most_pages * page_steps + 2 * answer_steps + settling_steps * left
rest_of phase.Calling = most_pages * page_steps + answer_steps
rest_of phase.Heading = most_pages * page_steps
rest_of (phase.Asking more left said) = page_steps * more + steps_of_an_asking * left + closing_steps
rest_of (phase.Resettling more left said) = page_steps * more + steps_of_an_asking * left + answer_steps + closing_steps
rest_of phase.Acking = 0
rest_of (phase.GivingUp trouble) = 0
