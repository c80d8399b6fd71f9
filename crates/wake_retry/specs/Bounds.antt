-- How many bytes a talk hears and says at most.
use Rattle.std.specs.Prelude.{ℕ, ◌≤◌, ◌*◌, Bool, List, [], ◌∷◌, length}
use Rattle.serial_link.specs.declared.talk.TalkItem.{TalkItem}
use Rattle.serial_link.specs.declared.talk.TalkItem.TheVariants.{Said, Heard, Quiet}
use Rattle.wake_retry.specs.Parts.{heard, Still, Flooding, Awaits, Wakes, WakeFloods, flood_size}

-- the bytes said
abbrev pub said : List TalkItem → List ℕ
said [] = []
said (Said b ends ∷ t) = b ∷ said t
said (Heard b ∷ t) = said t
said (Quiet ∷ t) = said t

-- So many bytes are heard in a talk at most, and so many said.
pub record IsBounded (most_heard most_said : ℕ) (talk : List TalkItem) : Type 0 where
  pub hears : length (heard talk) ≤ most_heard
  pub says : length (said talk) ≤ most_said

-- a settling hears a flood at most, still or flooded, and says nothing
pub record BoundsSettling (quiets : ℕ) : Type 0 where
  pub still : (t : List TalkItem) → Still quiets t → IsBounded flood_size 0 t
  pub floods : (t : List TalkItem) → Flooding quiets t → IsBounded flood_size 0 t

-- a wake of so many tries says a line feed for each at most, and hears as much as so many settlings
pub record BoundsWake (tries : ℕ) : Type 0 where
  pub ends : (t : List TalkItem) (awake : Bool) → Wakes tries t awake → IsBounded (flood_size * tries) tries t
  pub floods : (t : List TalkItem) → WakeFloods tries t → IsBounded (flood_size * tries) tries t

-- an answer of n bytes is no longer, whether it comes or not
abbrev pub BoundsAnswer : ℕ → ℕ → Type 0
BoundsAnswer quiets n = (t : List TalkItem) → Awaits quiets n t → IsBounded n 0 t
