-- One step of a trial.
use Rattle.std.specs.Prelude.{◌≡◌, ◌≢◌, ◌+◌, ℕ, Bool, true, false, List, [], ◌∷◌, ◌++◌, length, Option}
use Rattle.station_base.specs.CivilMinute.{CivilMinute}
use Rattle.causes.specs.declared.stored.Stored.{Stored}
use Rattle.serial_link.specs.Talk.{message}
use Rattle.serial_link.specs.declared.talk.TalkItem.{TalkItem}
use Rattle.serial_link.specs.declared.talk.TalkItem.TheVariants.{Said}
use Rattle.dmpaft_pump.specs.declared.outcome.Tally.{Tally}
use Rattle.dmpaft_pump.specs.declared.pump.Pump.{Pump}
use Rattle.dmpaft_pump.specs.declared.pump_end.PumpEnd.{PumpEnd}
use Rattle.dmpaft_driver.specs.declared.trying.TrialEnd.{TrialEnd}
use Rattle.dmpaft_driver.specs.declared.trying.TrialEnd.TheVariants as trial_end
use Rattle.dmpaft_driver.specs.Exact.{AllDone}
use Rattle.dmpaft_pump.specs.Pump.{AttemptState, Over, Astray, answer_taken, attempt_step, is_said, pump_from}
use Rattle.dmpaft_pump.specs.Shown.{PumpShows}

-- whether nothing follows
abbrev pub is_last : List ℕ → Bool
is_last [] = true
is_last (b ∷ bs) = false

-- nothing is left of the message or of the items, or the next item is not the one to be said
abbrev pub Differs : List ℕ → List TalkItem → Type 0
Differs [] items = Unit {0}
Differs (b ∷ bs) [] = Unit {0}
Differs (b ∷ bs) (i ∷ items) = is_said (Said b (is_last bs)) i ≡ false

-- So many of the items, and no more, are a prefix of the message of these bytes.
pub record SpellsMessage (words : List ℕ) (items : List TalkItem) (count : ℕ) (left : List ℕ) (rest : List TalkItem)
    : Type 0 where
  pub said : List TalkItem
  pub items_are : items ≡ said ++ rest
  pub message_is : message words ≡ said ++ message left
  pub counted : length said ≡ count
  pub sized : length words ≡ count + length left

-- The attempt might still end where it stands so, by these items.
pub record MightEnd (after : Option CivilMinute) (s : AttemptState) (rest : List TalkItem) : Type 0 where
  pub answers : List Stored
  pub place : ℕ
  pub taken : List (List ℕ)
  pub end : PumpEnd
  pub is_over : pump_from after s rest answers ≡ Over place taken end
  pub kept : AllDone answers

-- So many items were taken, and each batch was kept.
pub record StepsOn (start : Tally) (after : Option CivilMinute) (s : AttemptState) (items : List TalkItem) (count : ℕ)
    (pump : Pump) : Type 0 where
  pub front : List TalkItem
  pub rest : List TalkItem
  pub answers : List Stored
  pub items_are : items ≡ front ++ rest
  pub counted : length front ≡ count
  pub kept : AllDone answers
  pub shows : PumpShows start after (pump_from after s front answers) pump

-- Behind so many items the attempt might still end, but the next item does not fit, whatever the host answers.
pub record DoesNotFit (after : Option CivilMinute) (s : AttemptState) (items : List TalkItem) (count : ℕ) : Type 0 where
  pub front : List TalkItem
  pub next : TalkItem
  pub rest : List TalkItem
  pub items_are : items ≡ front ++ next ∷ rest
  pub counted : length front ≡ count
  pub other : List TalkItem
  pub might_end : MightEnd after (pump_from after s front []) other
  pub astray : (more : List Stored) → attempt_step after (answer_taken after (pump_from after s front []) more)
      next ≡ Astray

-- where a trial stops
abbrev pub TrialStopsAt : Option CivilMinute → AttemptState → List TalkItem → TrialEnd → Type 0
TrialStopsAt after s items (trial_end.Attempt end) =
    (items ≡ []) × (place : ℕ) × (taken : List (List ℕ)) × (s ≡ Over place taken end)
TrialStopsAt after s items trial_end.Unfinished =
    (rest : List TalkItem) × (rest ≢ []) × MightEnd after (pump_from after s items []) rest
TrialStopsAt after s items (trial_end.Not count) = DoesNotFit after s items count

-- how many items were taken before the one that does not fit
abbrev pub fitting_count : TrialEnd → ℕ
fitting_count (trial_end.Attempt end) = 0
fitting_count trial_end.Unfinished = 0
fitting_count (trial_end.Not count) = count

-- the same, of a talk of which so many items were taken before
abbrev pub later : ℕ → TrialEnd → TrialEnd
later taken (trial_end.Attempt end) = trial_end.Attempt end
later taken trial_end.Unfinished = trial_end.Unfinished
later taken (trial_end.Not count) = trial_end.Not (taken + count)
