-- The driver as a machine: where an attempt stands after each item of its talk and each answer of the keeper. (Davis
-- serial manual, "Download Protocol"; the numbers of waits, tries and askings, and what ends an attempt, are this
-- project's profile.)
use Rattle.std.specs.Prelude.{ℕ, zero, suc, ◌+◌, ◌==◌, Bool, true, false, ◌&&◌, List, [], ◌∷◌, ◌++◌, length, ◌-◌}
use Rattle.std.specs.Prelude.{slice_index, bytes_eq, Option}
use Rattle.station_base.specs.CivilMinute.{CivilMinute}
use Rattle.vantage_frames.specs.StampFrame.{stamp_frame_of}
use Rattle.serial_link.specs.Talk.{message}
use Rattle.serial_link.specs.declared.talk.TalkItem.{TalkItem}
use Rattle.serial_link.specs.declared.talk.TalkItem.TheVariants.{Said, Heard, Quiet}
use Rattle.wake_retry.specs.Parts.{ends_awake, flood_size, answer_waits, wake_tries, settled_waits}
use Rattle.causes.specs.declared.stored.Stored.{Stored}
use Rattle.causes.specs.declared.stored.Stored.TheVariants as stored
use Rattle.vantage_frames.specs.Slots.{page_size}
use Rattle.dmpaft_pump.specs.declared.pump_end.PumpEnd.{PumpEnd}
use Rattle.dmpaft_pump.specs.declared.pump_end.PumpEnd.TheVariants as pump_end
use Rattle.dmpaft_pump.specs.declared.outcome.Trouble.{Trouble}
use Rattle.dmpaft_pump.specs.declared.outcome.Trouble.TheVariants.{Asleep, NoAck, PageLost, PageAhead}
use Rattle.dmpaft_pump.specs.Batch.{slots_in_page, all_slots, rising, newest}
use Rattle.dmpaft_pump.specs.Header.{first_of}
use Rattle.dmpaft_pump.specs.Page.{is_page_for, is_ahead, next_said}
use Rattle.dmpaft_pump.specs.Command.{dmpaft}
use Rattle.dmpaft_pump.specs.Reply.{Reply, reply_of}

-- how often a page is asked for at most (this project's profile)
abbrev pub most_askings : ℕ
most_askings = 4

-- A part of an attempt: what is said, and then heard. `left` is how many more tries or askings there may be, `more`
-- how many pages come after this one, `place` that of the header, `taken` the pages taken so far, and `b` the byte
-- that asks.
pub data AttemptPart : Type 0 where
  Settling : AttemptPart
  Waking : (left : ℕ) → AttemptPart
  Calling : AttemptPart
  Heading : AttemptPart
  Asking : (more : ℕ) → (place : ℕ) → (taken : List (List ℕ)) → (left : ℕ) → (b : ℕ) → AttemptPart
  Resettling : (more : ℕ) → (place : ℕ) → (taken : List (List ℕ)) → (left : ℕ) → (b : ℕ) → AttemptPart
  Acking : (place : ℕ) → (taken : List (List ℕ)) → AttemptPart
  GivingUp : (place : ℕ) → (taken : List (List ℕ)) → (trouble : Trouble) → AttemptPart

-- What follows a part: another one; a page whose batch the keeper gets; nothing, since the header has no pages; or
-- nothing, since the line floods.
pub data Next : Type 0 where
  Goes : (part : AttemptPart) → Next
  Keeps : (more : ℕ) → (place : ℕ) → (taken : List (List ℕ)) → (page : List ℕ) → Next
  Empty : (place : ℕ) → Next
  Floods : (place : ℕ) → (taken : List (List ℕ)) → Next

-- Where an attempt stands: this is to be said, and then those; so many bytes were heard, and so many quiet waits in a
-- row; a page's batch is with the keeper; it is over; or there came what is not of an attempt.
pub data AttemptState : Type 0 where
  Saying : (part : AttemptPart) → (i : TalkItem) → (others : List TalkItem) → AttemptState
  Hearing : (part : AttemptPart) → (bytes : List ℕ) → (run : ℕ) → AttemptState
  Keeping : (more : ℕ) → (place : ℕ) → (taken : List (List ℕ)) → (page : List ℕ) → AttemptState
  Over : (place : ℕ) → (taken : List (List ℕ)) → (end : PumpEnd) → AttemptState
  Astray : AttemptState

-- what a part says
abbrev pub words : Option CivilMinute → AttemptPart → List ℕ
words after Settling = []
words after (Waking left) = 10 ∷ []
words after Calling = dmpaft
words after Heading = stamp_frame_of after
words after (Asking more place taken left b) = b ∷ []
words after (Resettling more place taken left b) = []
words after (Acking place taken) = 6 ∷ []
words after (GivingUp place taken trouble) = 27 ∷ []

-- so many quiet waits in a row end what a part hears
abbrev pub quiets : AttemptPart → ℕ
quiets Settling = settled_waits
quiets (Waking left) = answer_waits
quiets Calling = answer_waits
quiets Heading = answer_waits
quiets (Asking more place taken left b) = answer_waits
quiets (Resettling more place taken left b) = settled_waits
quiets (Acking place taken) = answer_waits
quiets (GivingUp place taken trouble) = answer_waits

-- so many bytes do
abbrev pub most : AttemptPart → ℕ
most Settling = flood_size
most (Waking left) = flood_size
most Calling = 1
most Heading = 7
most (Asking more place taken left b) = page_size
most (Resettling more place taken left b) = flood_size
most (Acking place taken) = 1
most (GivingUp place taken trouble) = 1

-- the place in the next page from which its slots are read
abbrev pub next_place : ℕ → List (List ℕ) → ℕ
next_place place [] = place
next_place place (page ∷ more) = 0

-- the greatest stamp after these pages
abbrev pub newest_in_pages : Option CivilMinute → ℕ → List (List ℕ) → Option CivilMinute
newest_in_pages after place taken = newest after (all_slots place taken)

-- the batch of a page after these
abbrev pub batch_of : Option CivilMinute → ℕ → List (List ℕ) → List ℕ → List (List ℕ)
batch_of after place taken page =
    rising (newest_in_pages after place taken) (slots_in_page (next_place place taken) page)

-- after a page whose batch, if any, is kept: the next one is asked for, or the last one is acknowledged
abbrev pub onward : ℕ → ℕ → List (List ℕ) → AttemptPart
onward zero place taken = Acking place taken
onward (suc more) place taken = Asking more place taken (most_askings - 1) 6

-- after a page: its batch goes to the keeper, if there is one
abbrev pub batched : ℕ → ℕ → List (List ℕ) → List ℕ → List (List ℕ) → Next
batched more place taken page [] = Goes (onward more place (taken ++ page ∷ []))
batched more place taken page (r ∷ rows) = Keeps more place taken page

-- after a line feed: the console is awake, or another one is said, or the attempt fails
abbrev pub woken : ℕ → Bool → Next
woken left true = Goes Calling
woken zero false = Goes (GivingUp 0 [] Asleep)
woken (suc left) false = Goes (Waking left)

-- after DMPAFT, by whether 0x06 answered it
abbrev pub called : List ℕ → Bool → Next
called bytes true = Goes Heading
called bytes false = Goes (GivingUp 0 [] (NoAck (first_of bytes)))

-- after the stamp frame, by what its answer is read as
abbrev pub headed : Reply → Next
headed (Reply.Header zero place) = Empty place
headed (Reply.Header (suc more) place) = Goes (Asking more place [] (most_askings - 1) 6)
headed (Reply.NoHeader trouble) = Goes (GivingUp 0 [] trouble)

-- after an asking that brought no page: one more, by this byte, or the attempt fails
abbrev pub asked_again : ℕ → ℕ → List (List ℕ) → ℕ → ℕ → Next
asked_again more place taken zero b = Goes (GivingUp place taken (PageLost (length taken)))
asked_again more place taken (suc left) b = Goes (Resettling more place taken left b)

-- after an asking, by whether the page came, and whether one ahead did
abbrev pub page_judged : Option CivilMinute → ℕ → ℕ → List (List ℕ) → ℕ → List ℕ → Bool → Bool → Next
page_judged after more place taken left bytes true ahead =
    batched more place taken bytes (batch_of after place taken bytes)
page_judged after more place taken left bytes false true = Goes (GivingUp place taken (PageAhead (length taken)
    (slice_index bytes 0)))
page_judged after more place taken left bytes false false = asked_again more place taken left (next_said
    (length taken) bytes)

-- what follows a part that heard these bytes, and whether they are as many as it can hear; the last parts hear nothing
abbrev pub next_after_part : Option CivilMinute → AttemptPart → Bool → List ℕ → Next
next_after_part after Settling true bytes = Floods 0 []
next_after_part after Settling false bytes = Goes (Waking (wake_tries - 1))
next_after_part after (Waking left) true bytes = Floods 0 []
next_after_part after (Waking left) false bytes = woken left (ends_awake bytes)
next_after_part after Calling full bytes = called bytes (bytes_eq bytes (6 ∷ []))
next_after_part after Heading full bytes = headed (reply_of bytes)
next_after_part after (Asking more place taken left b) full bytes =
    page_judged after more place taken left bytes (is_page_for (length taken) bytes) (is_ahead (length taken) bytes)
next_after_part after (Resettling more place taken left b) true bytes = Floods place taken
next_after_part after (Resettling more place taken left b) false bytes = Goes (Asking more place taken left b)
next_after_part after (Acking place taken) full bytes = Goes (Acking place taken)
next_after_part after (GivingUp place taken trouble) full bytes = Goes (GivingUp place taken trouble)

-- once its words are said a part hears, but the last ones, which end the attempt
abbrev pub words_said : AttemptPart → AttemptState
words_said Settling = Hearing Settling [] 0
words_said (Waking left) = Hearing (Waking left) [] 0
words_said Calling = Hearing Calling [] 0
words_said Heading = Hearing Heading [] 0
words_said (Asking more place taken left b) = Hearing (Asking more place taken left b) [] 0
words_said (Resettling more place taken left b) = Hearing (Resettling more place taken left b) [] 0
words_said (Acking place taken) = Over place taken pump_end.Whole
words_said (GivingUp place taken trouble) = Over place taken (pump_end.Failed trouble)

-- a part of which these items are to be said
abbrev pub saying : AttemptPart → List TalkItem → AttemptState
saying part [] = words_said part
saying part (i ∷ others) = Saying part i others

-- a part from its begin
abbrev pub begun : Option CivilMinute → AttemptPart → AttemptState
begun after part = saying part (message (words after part))

-- what comes next, from its begin
abbrev pub state_at : Option CivilMinute → Next → AttemptState
state_at after (Goes part) = begun after part
state_at after (Keeps more place taken page) = Keeping more place taken page
state_at after (Empty place) = Over place [] pump_end.Whole
state_at after (Floods place taken) = Over place taken pump_end.Flood

-- a page's batch was answered so
abbrev pub answered_by : Option CivilMinute → ℕ → ℕ → List (List ℕ) → Stored → AttemptState
answered_by after more place taken stored.Done = begun after (onward more place taken)
answered_by after more place taken stored.Full = Over place taken pump_end.Full
answered_by after more place taken stored.Stale = Over place taken pump_end.Stale
answered_by after more place taken stored.DiskFault = Over place taken pump_end.DiskFault

-- the first of these answers is taken where the keeper has a batch
abbrev pub answer_taken : Option CivilMinute → AttemptState → List Stored → AttemptState
answer_taken after (Saying part i others) answers = Saying part i others
answer_taken after (Hearing part bytes run) answers = Hearing part bytes run
answer_taken after (Keeping more place taken page) [] = Keeping more place taken page
answer_taken after (Keeping more place taken page) (answer ∷ answers) = answered_by after more place
    (taken ++ page ∷ []) answer
answer_taken after (Over place taken end) answers = Over place taken end
answer_taken after Astray answers = Astray

-- which of these answers are left, if the keeper has a batch
abbrev pub ungiven : AttemptState → List Stored → List Stored
ungiven (Saying part i others) answers = answers
ungiven (Hearing part bytes run) answers = answers
ungiven (Keeping more place taken page) [] = []
ungiven (Keeping more place taken page) (answer ∷ answers) = answers
ungiven (Over place taken end) answers = answers
ungiven Astray answers = answers

-- whether both end a message, or neither
abbrev pub same_end : Bool → Bool → Bool
same_end true ends = ends
same_end false true = false
same_end false false = true

-- whether this is the item that is to be said
abbrev pub is_said : TalkItem → TalkItem → Bool
is_said (Said b ends) (Said c stops) = (b == c) && same_end ends stops
is_said (Said b ends) (Heard c) = false
is_said (Said b ends) Quiet = false
is_said (Heard b) i = false
is_said Quiet i = false

-- by whether the item was the one to be said
abbrev pub said_if : AttemptPart → List TalkItem → Bool → AttemptState
said_if part others true = saying part others
said_if part others false = Astray

-- after a byte, by whether it is the last that is heard
abbrev pub heard_if : Option CivilMinute → AttemptPart → List ℕ → Bool → AttemptState
heard_if after part bytes true = state_at after (next_after_part after part true bytes)
heard_if after part bytes false = Hearing part bytes 0

-- after a quiet wait, by whether it is the last one
abbrev pub waited_if : Option CivilMinute → AttemptPart → List ℕ → ℕ → Bool → AttemptState
waited_if after part bytes run true = state_at after (next_after_part after part false bytes)
waited_if after part bytes run false = Hearing part bytes run

-- one item of the talk
abbrev pub attempt_step : Option CivilMinute → AttemptState → TalkItem → AttemptState
attempt_step after (Saying part i others) j = said_if part others (is_said i j)
attempt_step after (Hearing part bytes run) (Said b ends) = Astray
attempt_step after (Hearing part bytes run) (Heard b) = heard_if after part (bytes ++ b ∷ []) (length
    (bytes ++ b ∷ []) == most part)
attempt_step after (Hearing part bytes run) Quiet = waited_if after part bytes (run + 1) (run + 1 == quiets part)
attempt_step after (Keeping more place taken page) j = Astray
attempt_step after (Over place taken end) j = Astray
attempt_step after Astray j = Astray

-- a pump that has no use for answers goes astray by them
abbrev pub unless_given : List Stored → AttemptState → AttemptState
unless_given [] pump = pump
unless_given (answer ∷ answers) pump = Astray

-- where it stands after this talk and these answers of the keeper
abbrev pub pump_from : Option CivilMinute → AttemptState → List TalkItem → List Stored → AttemptState
pump_from after pump [] answers = unless_given (ungiven pump answers) (answer_taken after pump answers)
pump_from after pump (i ∷ talk) answers = pump_from after (attempt_step after (answer_taken after pump answers) i) talk
    (ungiven pump answers)

-- The pump made with this stamp that took the items of a talk and the keeper's answers in order. It is astray where
-- an item or an answer was none that could come then.
abbrev pub pump_after : Option CivilMinute → List TalkItem → List Stored → AttemptState
pump_after after talk answers = pump_from after (begun after Settling) talk answers
