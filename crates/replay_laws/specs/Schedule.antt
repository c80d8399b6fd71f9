-- The steps of a schedule.
use Rattle.std.specs.Prelude.{ℕ, List, [], ◌∷◌, ◌++◌}
use Rattle.std.specs.declared.option.Option.{Option}
use Rattle.console_model.specs.Valid.{EachFollows}
use Rattle.schedule_file.specs.declared.schedule.step.Stop.{Stop}
use Rattle.schedule_file.specs.Fates.{FatesByNumber}
use Rattle.station_sim.specs.Falling.{FallDue}
use Rattle.station_sim.specs.Sound.{AreRecords, AreSound}

-- a step of a schedule
pub data ReplayStep : Type 0 where
  -- records fall due, one after another
  Due : (records : List (List ℕ)) → ReplayStep
  Idle : (ticks : ℕ) → ReplayStep
  Open : (stop : Option Stop) → ReplayStep
  -- a round: what becomes of its messages, and by the number of messages said, the records that are still to fall due
  Round : (fates : FatesByNumber) → (left : ℕ → List (List ℕ)) → (stop : Option Stop) → ReplayStep

-- all records of a schedule, in its order
abbrev pub records : List ReplayStep → List (List ℕ)
records [] = []
records (ReplayStep.Due rs ∷ steps) = rs ++ records steps
records (ReplayStep.Round f left stop ∷ steps) = left 0 ++ records steps
records (other ∷ steps) = records steps

-- the fates of a round are such as can be, and its records fall due in order; no other step has a rule of its own
abbrev pub IsStep : ReplayStep → Type 0
IsStep (ReplayStep.Due rs) = Unit {0}
IsStep (ReplayStep.Idle n) = Unit {0}
IsStep (ReplayStep.Open stop) = Unit {0}
IsStep (ReplayStep.Round f left stop) = AreSound f × FallDue f left

-- each step keeps its rule
abbrev pub AreSteps : List ReplayStep → Type 0
AreSteps [] = Unit {0}
AreSteps (x ∷ xs) = IsStep x × AreSteps xs

-- The rules of a schedule: those of each step, and records whose stamps rise.
pub record IsSchedule (steps : List ReplayStep) : Type 0 where
  pub each : AreSteps steps
  pub rises : EachFollows [] (records steps)
  pub are_records : AreRecords (records steps)
