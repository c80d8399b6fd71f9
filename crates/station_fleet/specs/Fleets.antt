-- What the stations of a fleet come to.
use Rattle.std.specs.Prelude.{ℕ, ◌≡◌, ◌≤◌, ◌⊎◌, ◌-◌, List, [], slice_get, Some}
use Rattle.causes.specs.Lists.{IsFrontOf}
use Rattle.settings_file.specs.StationSettings.{StationSettings}
use Rattle.fleet.specs.declared.member.MemberTurn.{MemberTurn}
use Rattle.fleet.specs.declared.member.MemberTurn.TheVariants.{More, Ended, Unseen, WriteFault, OutOfMemory}
use Rattle.fleet.specs.declared.run.FleetEnd.{FleetEnd}
use Rattle.fleet.specs.declared.run.FleetEnd.TheVariants as fleet
use Rattle.fleet.specs.Crew.{Crew, StationIsOpen, last_answer_of}
use Rattle.fleet.specs.Log.{answers_of}
use Rattle.fleet.specs.StationLines.{station_lines}
use Rattle.fleet.specs.TurnText.{TurnEntry}
use Rattle.replay_laws.specs.Kept.{Kept}
use Rattle.replay_laws.specs.Replay.{IsReplay, Item, RunIsBegun}
use Rattle.replay_laws.specs.Schedule.{records}
use Rattle.replay_laws.specs.Texts.{text}
use Rattle.schedule_replay.specs.Replaying.{Course}
use Rattle.station_fleet.specs.declared.station.Station.{Station}
use Rattle.station_fleet.specs.Outcomes.{TurnsComeTo, StationStands, end_of_turns, course_start, course_steps}

-- each station, counted from 1, has its settings and its course, and stands where its run begins
abbrev pub Begin : (ℕ → StationSettings) → (ℕ → Course) → Crew Station → Type 0
Begin settings course crew = (station : ℕ) (s : Station) → 1 ≤ station → slice_get crew.members (station - 1) ≡ Some s
    → StationStands (settings station) (course station) [] s

-- each station came to what its own turns ended with, and what it wrote are its own lines in this text
abbrev pub EachRan : {K : Type 0} → (ℕ → StationSettings) → (ℕ → Course) → List (TurnEntry K) → Crew Station → List ℕ
    → Type 0
EachRan settings course log crew text = (station : ℕ) (s : Station) → 1 ≤ station
    → slice_get crew.members (station - 1) ≡ Some s
    → TurnsComeTo (end_of_turns (answers_of station log)) (settings station) (course station) []
    (λ bytes. bytes ≡ station_lines station text) s

-- no station has ended
abbrev pub NoneEnded : Crew Station → Type 0
NoneEnded crew = (station : ℕ) (s : Station) → 1 ≤ station → slice_get crew.members (station - 1) ≡ Some s
    → StationIsOpen crew station

-- the run of a station came to its end, or to a delivery that was unseen
abbrev pub RunIsOver : MemberTurn → Type 0
RunIsOver More = ⊥
RunIsOver Ended = Unit {0}
RunIsOver Unseen = Unit {0}
RunIsOver WriteFault = ⊥
RunIsOver OutOfMemory = ⊥

-- These are the lines that `replay` writes of these settings and this course: the text of a run of its steps, and so of
-- each.
pub record IsReplayText (settings : StationSettings) (c : Course) (lines : List ℕ) : Type 0 where
  pub run : List Item
  pub is_run : IsReplay settings (course_start c) (course_steps settings c) run
  pub lines_are : lines ≡ text run
  pub each : (o : List Item) → IsReplay settings (course_start c) (course_steps settings c) o → lines ≡ text o

-- the lines of each station that is over, without its number, are those that `replay` writes
abbrev pub EachOverReplays : (ℕ → StationSettings) → (ℕ → Course) → Crew Station → List ℕ → Type 0
EachOverReplays settings course crew bytes = (station : ℕ) (s : Station) → 1 ≤ station
    → slice_get crew.members (station - 1) ≡ Some s → RunIsOver (last_answer_of crew station)
    → IsReplayText (settings station) (course station) (station_lines station bytes)

-- the lines of each station are
abbrev pub EachReplays : (ℕ → StationSettings) → (ℕ → Course) → Crew Station → List ℕ → Type 0
EachReplays settings course crew bytes = (station : ℕ) (s : Station) → 1 ≤ station
    → slice_get crew.members (station - 1) ≡ Some s
    → IsReplayText (settings station) (course station) (station_lines station bytes)

-- These lines are a prefix of the text of a run of the steps of this course, or of the beginning of one. All is kept of
-- it.
pub record BeginsReplayText (settings : StationSettings) (c : Course) (lines : List ℕ) : Type 0 where
  pub run : List Item
  pub is_begun : RunIsBegun settings (course_start c) (course_steps settings c) run
      ⊎ IsReplay settings (course_start c) (course_steps settings c) run
  pub kept : Kept settings (records (course_steps settings c)) run
  pub front : IsFrontOf lines (text run)

-- the lines of each station, without its number, are such a prefix
abbrev pub EachBegins : (ℕ → StationSettings) → (ℕ → Course) → Crew Station → List ℕ → Type 0
EachBegins settings course crew bytes = (station : ℕ) (s : Station) → 1 ≤ station
    → slice_get crew.members (station - 1) ≡ Some s
    → BeginsReplayText (settings station) (course station) (station_lines station bytes)

-- the turns of a fleet came to the end of all stations
abbrev pub AllOver : FleetEnd → Type 0
AllOver (fleet.Done turns switches) = Unit {0}
AllOver (fleet.Unseen station) = Unit {0}
AllOver fleet.WriteFault = ⊥
AllOver fleet.OutOfMemory = ⊥
