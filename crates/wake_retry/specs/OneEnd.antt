-- What was said and heard tells where a part of it ends, and how.
use Rattle.std.specs.Prelude.{◌≡◌, ℕ, Bool, List, ◌++◌, length}
use Rattle.serial_link.specs.declared.talk.TalkItem.{TalkItem}
use Rattle.wake_retry.specs.Parts.{heard, IsFull, FallsShort, Awaits, Still, Flooding, Wakes, WakeFloods, IsCutOff}

-- of one talk one prefix at most is of this kind, so what is behind it is told too
abbrev pub HasOneFront : (List TalkItem → Type 0) → Type 0
HasOneFront Part = (s t a b : List TalkItem) → Part s → Part t → s ++ a ≡ t ++ b → (s ≡ t) × (a ≡ b)

-- no talk has a prefix of each kind
abbrev pub NeverBoth : (List TalkItem → Type 0) → (List TalkItem → Type 0) → Type 0
NeverBoth One Other = (s t a b : List TalkItem) → One s → Other t → s ++ a ≡ t ++ b → ⊥

-- an answer of n bytes that came
abbrev pub AnswerComes : ℕ → ℕ → List TalkItem → Type 0
AnswerComes q n t = IsFull q 0 t × (length (heard t) ≡ n)

-- an answer ends once, and it came or fell short
pub record EndsAnswer (q n : ℕ) : Type 0 where
  pub once : HasOneFront (Awaits q n)
  pub never_both : NeverBoth (AnswerComes q n) (FallsShort q n)
  pub cut : (t : List TalkItem) → IsCutOff (FallsShort q n) t → ¬ Awaits q n t

-- a settling ends once, still or flooded
pub record EndsSettling (q : ℕ) : Type 0 where
  pub still_once : HasOneFront (Still q)
  pub floods_once : HasOneFront (Flooding q)
  pub never_both : NeverBoth (Still q) (Flooding q)
  pub cut : (t : List TalkItem) → IsCutOff (Still q) t → (¬ Still q t) × (¬ Flooding q t)

-- a wake of so many tries ends once, awake, asleep or flooded
pub record EndsWake (left : ℕ) : Type 0 where
  pub once : (awake : Bool) → HasOneFront (λ t. Wakes left t awake)
  pub same : (s t a b : List TalkItem) (v w : Bool) → Wakes left s v → Wakes left t w → s ++ a ≡ t ++ b → v ≡ w
  pub floods_once : HasOneFront (WakeFloods left)
  pub never_both : (awake : Bool) → NeverBoth (WakeFloods left) (λ t. Wakes left t awake)
