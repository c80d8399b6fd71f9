-- What a ring keeps, the histories that it can stand for, and what a put makes of one.
use Rattle.std.specs.Prelude.{ℕ, ◌≡◌, ◌%◌, List, [], ◌∷◌, ◌++◌, length, Some}
use Rattle.console_ring.specs.declared.put.RingPut.{RingPut}
use Rattle.console_ring.specs.declared.put.RingPut.TheVariants.{Done, NotRising}
use Rattle.console_ring.specs.History.{retained, newest_stamp, CanExtend, IsNotAfter, IsHistory, ring_size}

-- the records in the slots, from the oldest on, and the slot of the next
pub record KeptRecords : Type 0 where
  pub records : List (List ℕ)
  pub next_slot : ℕ

-- the ring is what is left of this history
pub record RingStandsFor (ring : KeptRecords) (history : List (List ℕ)) : Type 0 where
  pub records : ring.records ≡ retained history
  pub next_slot : ring.next_slot ≡ length history % ring_size
  pub rises : IsHistory history

-- what a put of a record answers, and the ring that it leaves
abbrev pub Puts : List (List ℕ) → List ℕ → KeptRecords → RingPut → KeptRecords → Type 0
Puts history bytes old Done new = CanExtend history bytes × RingStandsFor new (history ++ bytes ∷ [])
Puts history bytes old (NotRising newest) new =
    (newest_stamp history ≡ Some newest) × IsNotAfter newest bytes × (new ≡ old)
