-- The records that taken pages give, page by page.
use Rattle.std.specs.Prelude.{◌≢◌, ℕ, zero, suc, ◌+◌, ◌-◌, Bool, true, false, ◌&&◌, List, [], ◌∷◌, ◌++◌, Option}
use Rattle.station_base.specs.CivilMinute.{CivilMinute}
use Rattle.vantage_frames.specs.Slots.{slot_at}
use Rattle.archive_record.specs.Reading.{stamp_in}
use Rattle.archive_record.specs.Record.{reads_as_row}
use Rattle.causes.specs.declared.stored.Stored.{Stored}
use Rattle.station_base.specs.LastStamp.{exceeds}
use Rattle.dmpaft_pump.specs.Slot.{is_skipped}
use Rattle.dmpaft_pump.specs.Keeper.{Handed, one_batch}

-- the slots of a page (Davis serial manual, "Download Protocol")
abbrev pub page_slots : ℕ
page_slots = 5

-- so many slots of a page, from a place on
abbrev pub slots_from : ℕ → ℕ → List ℕ → List (List ℕ)
slots_from zero place page = []
slots_from (suc left) place page = slot_at page place ∷ slots_from left (place + 1) page

-- the slots of a page from a place on, of the five that it has
abbrev pub slots_in_page : ℕ → List ℕ → List (List ℕ)
slots_in_page place page = slots_from (page_slots - place) place page

-- whether a slot reads as a row, and its stamp exceeds the last one
abbrev pub slot_is_newer : Option CivilMinute → List ℕ → Bool
slot_is_newer last slot = reads_as_row slot && exceeds last (stamp_in slot)

-- the slot, if it is wanted, or none
abbrev pub one_if : Bool → List ℕ → List (List ℕ)
one_if true slot = slot ∷ []
one_if false slot = []

-- the stamp of the slot, if it is newer, and else the last one
abbrev pub last_if : Bool → Option CivilMinute → List ℕ → Option CivilMinute
last_if true last slot = stamp_in slot
last_if false last slot = last

-- the records whose stamps exceed the last one and those of all records before them
abbrev pub rising : Option CivilMinute → List (List ℕ) → List (List ℕ)
rising last [] = []
rising last (s ∷ ss) = one_if (slot_is_newer last s) s ++ rising (last_if (slot_is_newer last s) last s) ss

-- the greatest of the last stamp and those of these slots, as far as they read as rows
abbrev pub newest : Option CivilMinute → List (List ℕ) → Option CivilMinute
newest last [] = last
newest last (s ∷ ss) = newest (last_if (slot_is_newer last s) last s) ss

-- one, or none
abbrev pub count_if : Bool → ℕ
count_if true = 1
count_if false = 0

-- how many slots are skipped
abbrev pub skipped : List (List ℕ) → ℕ
skipped [] = 0
skipped (s ∷ ss) = count_if (is_skipped s) + skipped ss

-- a batch before others; an empty one is none
abbrev pub add : List (List ℕ) → List (List (List ℕ)) → List (List (List ℕ))
add [] batches = batches
add (r ∷ rows) batches = (r ∷ rows) ∷ batches

-- the batches of taken pages after the last stamp, of the first page from a place on
abbrev pub batches : Option CivilMinute → ℕ → List (List ℕ) → List (List (List ℕ))
batches last place [] = []
batches last place (page ∷ more) =
    add (rising last (slots_in_page place page)) (batches (newest last (slots_in_page place page)) 0 more)

-- the records of batches, in order
abbrev pub records_in : List (List (List ℕ)) → List (List ℕ)
records_in [] = []
records_in (rows ∷ more) = rows ++ records_in more

-- the slots of taken pages, of the first page from a place on
abbrev pub all_slots : ℕ → List (List ℕ) → List (List ℕ)
all_slots place [] = []
all_slots place (page ∷ more) = slots_in_page place page ++ all_slots 0 more

-- how many slots of taken pages are skipped, of the first page from a place on
abbrev pub all_skipped : ℕ → List (List ℕ) → ℕ
all_skipped place [] = 0
all_skipped place (page ∷ more) = skipped (slots_in_page place page) + all_skipped 0 more

-- batches of which the last has this answer, and those before it were kept
abbrev pub answered_batches : Stored → List (List (List ℕ)) → Handed
answered_batches answer [] = Handed.Nothing
answered_batches answer (rows ∷ []) = one_batch answer rows
answered_batches answer (rows ∷ next ∷ more) = Handed.Kept rows (answered_batches answer (next ∷ more))

-- the last of these pages gives a batch
abbrev pub EndsGiving : Option CivilMinute → ℕ → List (List ℕ) → Type 0
EndsGiving last place [] = ⊥
EndsGiving last place (page ∷ []) = rising last (slots_in_page place page) ≢ []
EndsGiving last place (page ∷ next ∷ more) = EndsGiving (newest last (slots_in_page place page)) 0 (next ∷ more)
