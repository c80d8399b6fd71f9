-- How much a round hears and says at most.
use Rattle.std.specs.Prelude.{◌≡◌, ℕ, List, ◌++◌, Some}
use Rattle.causes.specs.Told.{WhereTold}
use Rattle.serial_link.specs.Traffic.{Traffic}
use Rattle.serial_link.specs.declared.talk.TalkItem.{TalkItem}
use Rattle.wake_retry.specs.Bounds.{IsBounded}

-- where a link tells its talk, it grew by so many bytes heard at most, and so many said
abbrev pub GrowsWithin : {L : Type 0} → Traffic L → ℕ → ℕ → L → L → Type 0
GrowsWithin traffic most_heard most_said old new = WhereTold (traffic.talk old) (λ before. (t : List TalkItem)
    × (traffic.talk new ≡ Some (before ++ t)) × IsBounded most_heard most_said t)
