-- A talk in which bytes are only said.
use Rattle.std.specs.Prelude.{ℕ, ◌≡◌, List, [], ◌∷◌, ◌++◌}
use Rattle.std.proofs.Common.{refl, ap, ◌∙◌, arith}
use Rattle.serial_link.specs.Talk.{count_quiets}
use Rattle.serial_link.specs.declared.talk.TalkItem.{TalkItem}
use Rattle.serial_link.specs.declared.talk.TalkItem.TheVariants.{Said, Heard, Quiet}
use Rattle.serial_link.proofs.GrownTalk.{count_quiets-append}
use Rattle.wake_retry.specs.Bounds.{said}
use Rattle.wake_retry.specs.Parts.{heard}
use Rattle.wake_retry.proofs.Endings.{heard-append}

-- nothing is heard in it, and no wait passes
abbrev pub TalkOnlySays : List TalkItem → Type 0
TalkOnlySays t = (heard t ≡ []) × (count_quiets t ≡ 0)

pub only_none : TalkOnlySays []
only_none = (refl, refl)

pub only_joins : (s t : List TalkItem) → TalkOnlySays s → TalkOnlySays t → TalkOnlySays (s ++ t)
only_joins s t one two = (
  heard-append s t ∙ (ap (λ (x : List ℕ). x ++ heard t) one.0 ∙ two.0),
  omega (arith, count_quiets-append s t, one.1, two.1),
)

pub said_joins : (s t : List TalkItem) → said (s ++ t) ≡ said s ++ said t
said_joins [] t = refl
said_joins (Said b ends ∷ s) t = ap (λ (x : List ℕ). b ∷ x) (said_joins s t)
said_joins (Heard b ∷ s) t = said_joins s t
said_joins (Quiet ∷ s) t = said_joins s t
