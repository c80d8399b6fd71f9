-- What a step of a run gives, and what is told of it.
use Rattle.std.specs.Prelude.{◌≡◌, ℕ, ◌⊎◌, Bool, true, false, List, [], ◌∷◌, ◌++◌}
use Rattle.std.specs.declared.option.Option.{Option}
use Rattle.settings_file.specs.StationSettings.{StationSettings}
use Rattle.schedule_file.specs.Fates.{FatesByNumber}
use Rattle.schedule_file.specs.declared.schedule.step.Stop.{Stop}
use Rattle.replay_laws.specs.Schedule.{ReplayStep}
use Rattle.replay_laws.specs.Replay.{Does, IsUnseenRound, Item, Stage, opening_if_closed, opened}
use Rattle.schedule_replay.specs.Telling.{Telling}

-- The step is a round in which a delivery was unseen, and these are its items.
pub record BreaksAt (settings : StationSettings) (step : ReplayStep) (from : Stage) (items : List Item) : Type 0 where
  pub fates : FatesByNumber
  pub left : ℕ → List (List ℕ)
  pub stop : Option Stop
  pub is_round : step ≡ ReplayStep.Round fates left stop
  pub unsaid : Item
  pub broken : IsUnseenRound settings fates stop (opened from.is_open from) unsaid
  pub items_are : items ≡ opening_if_closed from.is_open from ++ unsaid ∷ []

-- what is known after a step, by whether a delivery was unseen: its items are told, and P holds of where it leads
abbrev pub After : {T : Type 0} → Telling T → Bool → StationSettings → ReplayStep → Stage → (List Item → Stage → Type 0)
    → T → T → Type 0
After telling false settings x s P old new =
    (is : List Item) × (u : Stage) × Does settings x s is u × P is u × telling.tells old is new
After telling true settings x s P old new = (is : List Item) × BreaksAt settings x s is × telling.tells old is new

-- what is known of a step that was cut off: a prefix of what is told of its items is told, or of the opening before it
abbrev pub StepIsCut : {T : Type 0} → Telling T → StationSettings → ReplayStep → Stage → T → T → Type 0
StepIsCut telling settings x s old new =
    ((is : List Item) × (u : Stage) × Does settings x s is u × telling.breaks_off old is new)
    ⊎ ((is : List Item) × BreaksAt settings x s is × telling.breaks_off old is new)
    ⊎ ((f : FatesByNumber) × (left : ℕ → List (List ℕ)) × (stop : Option Stop) × (x ≡ ReplayStep.Round f left stop)
    × telling.breaks_off old (opening_if_closed s.is_open s) new)
    ⊎ telling.tells old [] new
