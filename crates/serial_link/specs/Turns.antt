-- Talks that are made of turns, one behind another. Whoever takes them is at one state before each turn and at another
-- behind it.
use Rattle.std.specs.Prelude.{ℕ, zero, suc, ◌≡◌, ◌≤◌, ◌<◌, ◌⊎◌, List, [], ◌∷◌, ◌++◌, length, map}
use Rattle.serial_link.specs.declared.talk.TalkItem.{TalkItem}
use Rattle.serial_link.specs.declared.talk.TalkItem.TheVariants.{Heard, Quiet}

-- one receive of up to so many bytes: a wait passed, or some bytes were heard
abbrev pub CameOfOneReceive : ℕ → List TalkItem → Type 0
CameOfOneReceive room t = (t ≡ Quiet ∷ [])
    ⊎ ((bytes : List ℕ) × (t ≡ map Heard bytes) × (1 ≤ length bytes) × (length bytes ≤ room))

-- so many turns of this kind lead from one state to another
abbrev pub AreTurns : {S : Type 0} → (S → List TalkItem → S → Type 0) → ℕ → S → List TalkItem → S → Type 0
AreTurns Turn zero from t to = (t ≡ []) × (to ≡ from)
AreTurns {S} Turn (suc turns) from t to =
    (first : List TalkItem) × (later : List TalkItem) × (next : S) × (t ≡ first ++ later)
    × Turn from first next × AreTurns Turn turns next later to

-- Some turns were taken whole, fewer than were to be. Behind them nothing was said or heard, or a turn broke off.
pub record TurnsBreakOff {S : Type 0} (Turn : S → List TalkItem → S → Type 0) (BreaksOff : S → List TalkItem → Type 0)
    (turns : ℕ) (from : S) (t : List TalkItem) : Type 0 where
  pub taken : ℕ
  pub few : taken < turns
  pub front : List TalkItem
  pub last : List TalkItem
  pub whole : t ≡ front ++ last
  pub at : S
  pub turns_are : AreTurns Turn taken from front at
  pub ends : (last ≡ []) ⊎ BreaksOff at last
