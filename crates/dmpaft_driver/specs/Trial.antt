-- What a talk is to who tries whether it is an attempt.
use Rattle.std.specs.Prelude.{◌≡◌, ◌≢◌, ℕ, List, [], ◌∷◌, ◌++◌, length, Option}
use Rattle.station_base.specs.CivilMinute.{CivilMinute}
use Rattle.vantage_frames.specs.StampFrame.{stamp_frame_of}
use Rattle.serial_link.specs.declared.talk.TalkItem.{TalkItem}
use Rattle.dmpaft_driver.specs.declared.trying.TrialEnd.{TrialEnd}
use Rattle.dmpaft_driver.specs.declared.trying.TrialEnd.TheVariants as trial_end
use Rattle.dmpaft_driver.specs.Attempt.{End, Attempt}
use Rattle.dmpaft_driver.specs.Exact.{attempt_end}

-- An attempt after this stamp in which no batch is refused begins with these items, and goes on by these.
pub record AttemptGoesOn (after : Option CivilMinute) (talk rest : List TalkItem) : Type 0 where
  pub place : ℕ
  pub taken : List (List ℕ)
  pub end : End
  pub whole : Attempt (stamp_frame_of after) (talk ++ rest) place taken end
  pub kept : end ≢ End.Refused

-- an attempt in which no batch is refused begins with these items
abbrev pub BeginsAttempt : Option CivilMinute → List TalkItem → Type 0
BeginsAttempt after talk = (rest : List TalkItem) × AttemptGoesOn after talk rest

-- what a talk is, by the answer of a trial
abbrev pub TalkIsTried : Option CivilMinute → List TalkItem → TrialEnd → Type 0
TalkIsTried after talk (trial_end.Attempt end) = (place : ℕ) × (taken : List (List ℕ))
    × Attempt (stamp_frame_of after) talk place taken (attempt_end end) × (attempt_end end ≢ End.Refused)
TalkIsTried after talk trial_end.Unfinished = (rest : List TalkItem) × (rest ≢ []) × AttemptGoesOn after talk rest
TalkIsTried after talk (trial_end.Not count) = (front : List TalkItem) × (i : TalkItem) × (rest : List TalkItem)
    × (talk ≡ front ++ i ∷ rest) × (length front ≡ count) × BeginsAttempt after front
    × (BeginsAttempt after (front ++ i ∷ []) → ⊥)

-- a talk has one answer
abbrev pub OneTrial : Option CivilMinute → Type 0
OneTrial after = (talk : List TalkItem) (x y : TrialEnd) → TalkIsTried after talk x → TalkIsTried after talk y → x ≡ y
