-- What the archive's slots, five a page, show of a history, and the pages of a dump (Davis serial manual,
-- "Download Protocol"). That a dump goes on to the last record, over the end of the ring into its first page again, is
-- this project's profile.
use Rattle.std.specs.Prelude.{ℕ, ◌≡◌, ◌<◌, ◌≤◌, zero, suc, ◌+◌, ◌-◌, ◌*◌, ◌/◌, ◌%◌, List, [], ◌∷◌, ◌++◌}
use Rattle.std.specs.Prelude.{length, replicate, if◌then◌else◌, nat_lt, slice_get, position, Some, None}
use Rattle.std.specs.declared.option.Option.{Option}
use Rattle.archive_record.specs.Place.{record_size}
use Rattle.crc_ccitt.specs.Check.{sealed}
use Rattle.console_ring.specs.declared.plan.Plan.{Plan}
use Rattle.console_ring.specs.History.{retained, record_is_newer, ring_size, ring_pages}

-- the greatest number below the count that stands in a slot, numbers being counted from 0
abbrev pub last_number_in : ℕ → ℕ → ℕ
last_number_in count slot = slot + ring_size * ((count - 1 - slot) / ring_size)

-- It is the greatest number below the count of a record that goes into this slot.
pub record IsLastIn (count slot number : ℕ) : Type 0 where
  pub below : number < count
  pub slot_is : number % ring_size ≡ slot
  pub greatest : (other : ℕ) → other < count → other % ring_size ≡ slot → other ≤ number

-- the last record that was put in a slot, if one was
abbrev pub ring_slot : List (List ℕ) → ℕ → Option (List ℕ)
ring_slot history slot =
    if nat_lt slot (length history) then slice_get history (last_number_in (length history) slot) else None

-- the bytes of a slot, all 0xFF where none was written
abbrev pub shown : Option (List ℕ) → List ℕ
shown None = replicate record_size 255
shown (Some bytes) = bytes

-- a dump of nothing
abbrev pub no_plan : Plan
no_plan = record { pages = 0; place = 0; first_page = 0 }

-- a dump from a record's number on, to the last of so many
abbrev pub plan_from : ℕ → ℕ → Plan
plan_from first count = record {
  pages = (count - 1 - first + first % ring_size % 5) / 5 + 1;
  place = first % ring_size % 5;
  first_page = first % ring_size / 5;
}

-- a dump of the last so many records: of none, or from the first of them on
abbrev pub plan_of_last : ℕ → ℕ → Plan
plan_of_last zero count = no_plan
plan_of_last (suc more) count = plan_from (count - suc more) count

-- a dump from the first newer record on, if there is one, by its place among those retained
abbrev pub plan_by : Option ℕ → ℕ → ℕ → Plan
plan_by None overwritten count = no_plan
plan_by (Some place) overwritten count = plan_from (overwritten + place) count

-- the dump of all that is retained from the first record on that is newer than these words
unfoldable pub plan_of : List (List ℕ) → ℕ → ℕ → Plan
plan_of history date time =
    plan_by (position (record_is_newer date time) (retained history)) (length history - ring_size) (length history)

-- the bytes at a place of a page of a dump
abbrev pub slot_on : List (List ℕ) → Plan → ℕ → ℕ → List ℕ
slot_on history plan page place = shown (ring_slot history (5 * ((plan.first_page + page) % ring_pages) + place))

-- the slots below a place, one behind the other
unfoldable pub slots_before : (ℕ → List ℕ) → ℕ → List ℕ
slots_before slot zero = []
slots_before slot (suc place) = slots_before slot place ++ slot place

-- a page of a dump: its sequence, five slots, four unused bytes and the check
unfoldable pub page_of : List (List ℕ) → Plan → ℕ → List ℕ
page_of history plan page =
    sealed ((page % 256) ∷ slots_before (slot_on history plan page) 5 ++ replicate 4 255)
