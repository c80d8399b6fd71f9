-- Where a round stands: which of its attempts failed, and how far the one under way has come. (How many there
-- may be is this project's profile.)
use Rattle.std.specs.Prelude.{◌-◌, ◌≡◌, ℕ, ◌+◌, ◌*◌, ◌≤◌, List, [], ◌∷◌, ◌++◌, length, Option, None}
use Rattle.station_base.specs.CivilMinute.{CivilMinute}
use Rattle.serial_link.specs.declared.talk.TalkItem.{TalkItem}
use Rattle.causes.specs.declared.stored.Stored.{Stored}
use Rattle.vantage_frames.specs.Header.{most_pages}
use Rattle.dmpaft_pump.specs.declared.outcome.Tally.{Tally}
use Rattle.dmpaft_pump.specs.declared.outcome.Trouble.{Trouble}
use Rattle.dmpaft_pump.specs.declared.pump_end.PumpEnd.TheVariants as pump_end
use Rattle.dmpaft_driver.specs.Exact.{AllDone}
use Rattle.dmpaft_pump.specs.Keeper.{kept_all, join, last_kept}
use Rattle.dmpaft_pump.specs.Phases.{attempt_steps}
use Rattle.dmpaft_pump.specs.Pump.{AttemptState, Over, pump_after}
use Rattle.dmpaft_pump.specs.Shown.{PumpShows, steps_left}
use Rattle.dmpaft_driver.specs.Standing.{handed_over}
use Rattle.station_session.specs.declared.round.Round.{Round}
use Rattle.station_session.specs.Attempts.{MadeAttempt, IsMadeAfter, end_after, stamp_after, stamp_behind}
use Rattle.station_session.specs.Attempts.{all_batches, all_said, most_attempts}
use Rattle.station_session.specs.Attempts.{page_count, skip_count}
use Rattle.station_session.specs.Troubles.{troubles_of}

-- each of these attempts failed, the first asking after this stamp and each later one after the last record kept
abbrev pub AllFailed : Option CivilMinute → List MadeAttempt → Type 0
AllFailed last [] = Unit {0}
AllFailed last (t ∷ ts) = IsMadeAfter last t × (end_after t.end ≡ None) × AllFailed (stamp_after last t) ts

-- what these attempts brought
abbrev pub tally_of : Option CivilMinute → List MadeAttempt → Tally
tally_of last tries = record {
  pages = page_count tries;
  skipped = skip_count tries;
  last = last_kept (all_batches last tries) None;
}

-- the attempt is over, and failed
abbrev pub HasFailed : AttemptState → Type 0
HasFailed s =
    (place : ℕ) × (taken : List (List ℕ)) × (trouble : Trouble) × (s ≡ Over place taken (pump_end.Failed trouble))

-- A round that began after this stamp has said and heard this, and kept these batches: some attempts failed, fewer than
-- there may be, and behind them the pump is where its attempt stands. Where that one failed too, it is the last.
pub record RoundAt (last : Option CivilMinute) (talk : List TalkItem) (kept : List (List (List ℕ))) (round : Round)
    : Type 0 where
  pub tries : List MadeAttempt
  pub failed : AllFailed last tries
  pub few : round.more + length tries ≡ most_attempts - 1
  pub pages : page_count tries ≤ most_pages * length tries
  pub said : List TalkItem
  pub answers : List Stored
  pub state : AttemptState
  pub stands : pump_after (stamp_behind last tries) said answers ≡ state
  pub done : AllDone answers
  pub shows : PumpShows (tally_of last tries) (stamp_behind last tries) state round.pump
  pub goes_on : HasFailed state → round.more ≡ 0
  pub talk_is : talk ≡ all_said tries ++ said
  pub kept_are : kept_all kept ≡ join (all_batches last tries) (handed_over (stamp_behind last tries) state)
  pub troubles : round.troubles.items ≡ troubles_of tries

-- so many turns are left at most: those of the pump, and the steps of each attempt that may follow
abbrev pub round_turns_left : Round → ℕ
round_turns_left round = steps_left round.pump + attempt_steps * round.more
