use Rattle.std.proofs.Common.{◌≡◌, ℕ, ◌≤◌, ◌++◌, List, length, Option}
use Rattle.station_base.specs.CivilMinute.{CivilMinute}
use Rattle.causes.specs.declared.stored.Stored.{Stored}
use Rattle.serial_link.specs.declared.talk.TalkItem.{TalkItem}
use Rattle.dmpaft_driver.specs.Exact.{AllDone}
use Rattle.dmpaft_pump.specs.declared.pump.Pump.{Pump}
use Rattle.dmpaft_pump.specs.Pump.{AttemptState, pump_after}
use Rattle.dmpaft_pump.specs.Shown.{PumpShows, no_tally, steps_left}
use Rattle.dmpaft_driver.proofs.trying.trial.Given as goal

-- the pump is where the attempt stands after the items that were taken, with each batch kept
pub record TakenSoFar (after : Option CivilMinute) (talk : List TalkItem) (at : ℕ) (pump : Pump) : Type 0 where
  pub taken : List TalkItem
  pub rest : List TalkItem
  pub answers : List Stored
  pub state : AttemptState
  pub talk_is : talk ≡ taken ++ rest
  pub counted : length taken ≡ at
  pub stands : pump_after after taken answers ≡ state
  pub kept : AllDone answers
  pub shown : PumpShows no_tally after state pump

-- no more items were taken than there are
abbrev pub invariant-steps : goal.invariant-steps
invariant-steps l = record {
  sofar : TakenSoFar l.fn.after l.fn.talk l.at l.pump;
  within : l.at ≤ length l.fn.talk;
}

abbrev pub decreases-steps : goal.decreases-steps
decreases-steps l = steps_left l.pump
