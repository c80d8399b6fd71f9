-- What the turns of a station come to.
use Rattle.std.specs.Prelude.{◌≡◌, ◌≤◌, ◌⊎◌, ℕ, ◌+◌, length, true, List, [], ◌∷◌, ◌++◌, is_some, Some, None}
use Rattle.std.specs.declared.option.Option.{Option}
use Rattle.causes.specs.Lists.{IsFrontOf}
use Rattle.settings_file.specs.StationSettings.{StationSettings}
use Rattle.fleet.specs.declared.member.MemberTurn.{MemberTurn}
use Rattle.fleet.specs.declared.member.MemberTurn.TheVariants.{More, Ended, Unseen, WriteFault, OutOfMemory}
use Rattle.replay_laws.specs.Kept.{Kept}
use Rattle.replay_laws.specs.Schedule.{ReplayStep, records}
use Rattle.replay_laws.specs.Replay.{RunIsBegun, IsReplay, IsUnseen, Item, Stage, start}
use Rattle.replay_laws.specs.Texts.{text}
use Rattle.schedule_replay.specs.Replayed.{TookPart}
use Rattle.schedule_replay.specs.Replaying.{Course, Replaying}
use Rattle.schedule_replay.specs.Turns.{IsOneTurn}
use Rattle.round_play.specs.Playing.{MakesOneCall, SaysOrStores}
use Rattle.schedule_steps.specs.Steps.{steps_for}
use Rattle.station_fleet.specs.declared.station.Station.{Station}

-- the stage at which a course starts
abbrev pub course_start : Course → Stage
course_start c = start c.eeprom c.packet

-- the steps of a course, as those of a run
abbrev pub course_steps : StationSettings → Course → List ReplayStep
course_steps settings c = steps_for settings.period c.steps

-- The station has these settings and the steps of the course, and its run stands behind these items.
pub record StationStands (settings : StationSettings) (c : Course) (items : List Item) (s : Station) : Type 0 where
  pub settings_are : s.run.settings ≡ settings
  pub steps_are : s.schedule.steps.items ≡ c.steps
  pub stands : Replaying c.eeprom c.packet s.schedule.steps.items items c.before s.line c.made s.disk s.run

-- The run goes on behind more items, of which the text is of this kind.
pub record RunGoesOn (settings : StationSettings) (c : Course) (items : List Item) (P : List ℕ → Type 0) (s : Station)
    : Type 0 where
  pub given : List Item
  pub writes : P (text given)
  pub stands : StationStands settings c (items ++ given) s

-- The run came to its end: the items are the run of the schedule, all is kept, and the line and the disk took part.
pub record RunEnds (settings : StationSettings) (c : Course) (items : List Item) (P : List ℕ → Type 0) (s : Station)
    : Type 0 where
  pub given : List Item
  pub writes : P (text given)
  pub kept : Kept settings (records (course_steps settings c)) (items ++ given)
  pub took_part : TookPart settings (course_start c) (course_steps settings c) (items ++ given) c.before s.line s.disk

-- A delivery was unseen: the items lead up to it, and all is kept.
pub record Breaks (settings : StationSettings) (c : Course) (items : List Item) (P : List ℕ → Type 0) : Type 0 where
  pub given : List Item
  pub writes : P (text given)
  pub is_unseen : IsUnseen settings (course_start c) (course_steps settings c) (items ++ given)
  pub kept : Kept settings (records (course_steps settings c)) (items ++ given)

-- The run was cut off: a prefix of the text is of this kind, the items are the run or its beginning, and all is kept.
pub record Cuts (settings : StationSettings) (c : Course) (items : List Item) (P : List ℕ → Type 0) : Type 0 where
  pub given : List Item
  pub written : List ℕ
  pub front : IsFrontOf written (text given)
  pub writes : P written
  pub is_begun : RunIsBegun settings (course_start c) (course_steps settings c) (items ++ given)
      ⊎ IsReplay settings (course_start c) (course_steps settings c) (items ++ given)
  pub kept : Kept settings (records (course_steps settings c)) (items ++ given)

-- how turns with these answers ended: by the last answer, if none before it was an end
abbrev pub only : MemberTurn → List MemberTurn → Option MemberTurn
only answer [] = Some answer
only answer (next ∷ later) = None

abbrev pub end_of_turns : List MemberTurn → Option MemberTurn
end_of_turns [] = Some More
end_of_turns (More ∷ later) = end_of_turns later
end_of_turns (Ended ∷ later) = only Ended later
end_of_turns (Unseen ∷ later) = only Unseen later
end_of_turns (WriteFault ∷ later) = only WriteFault later
end_of_turns (OutOfMemory ∷ later) = only OutOfMemory later

-- what turns that ended so come to; of a turn behind an end nothing is said
abbrev pub TurnsComeTo : Option MemberTurn → StationSettings → Course → List Item → (List ℕ → Type 0) → Station → Type 0
TurnsComeTo None settings c items P s = Unit {0}
TurnsComeTo (Some More) settings c items P s = RunGoesOn settings c items P s
TurnsComeTo (Some Ended) settings c items P s = RunEnds settings c items P s
TurnsComeTo (Some Unseen) settings c items P s = Breaks settings c items P
TurnsComeTo (Some WriteFault) settings c items P s = Cuts settings c items P
TurnsComeTo (Some OutOfMemory) settings c items P s = Cuts settings c items P

-- A turn with more to come is one of its run: the run counts it, and it is one of those that there are. It says or
-- hears nothing, or begins no change of the disk; within a round it makes one call.
pub record TakesOneTurn (old new : Station) : Type 0 where
  pub counted : new.run.turns ≡ old.run.turns + 1
  pub is_one : IsOneTurn old.run new.run
  pub says_or_stores : SaysOrStores old.line old.disk new.line new.disk
  pub one_call : is_some new.run.playing ≡ true → MakesOneCall old.line old.disk new.line new.disk

-- The run is at its end: no round is under way, all steps are taken, and the archive is open.
pub record IsAtEnd (s : Station) : Type 0 where
  pub no_round : s.run.playing ≡ None
  pub all_taken : length s.schedule.steps.items ≤ s.run.taken
  pub is_open : is_some s.run.run.session ≡ true

-- A turn in which a delivery was unseen is one of its run, which counts none with more to come. It says or hears
-- nothing, or begins no change of the disk.
pub record BreaksInOneTurn (old new : Station) : Type 0 where
  pub not_counted : new.run.turns ≡ old.run.turns
  pub says_or_stores : SaysOrStores old.line old.disk new.line new.disk

-- this is so of an end, if no turns come behind it
abbrev pub IfLast : List MemberTurn → Type 0 → Type 0
IfLast [] P = P
IfLast (next ∷ later) P = Unit {0}

-- the turns were taken one by one, up to the end if there is one; the end is a turn of its own, with which the run
-- counts none
abbrev pub TurnsOneByOne : Station → List MemberTurn → Station → Type 0
TurnsOneByOne old [] new = new ≡ old
TurnsOneByOne old (More ∷ later) new = (next : Station) × TakesOneTurn old next × TurnsOneByOne next later new
TurnsOneByOne old (Ended ∷ later) new = IsAtEnd old
TurnsOneByOne old (Unseen ∷ later) new = IfLast later (BreaksInOneTurn old new)
TurnsOneByOne old (WriteFault ∷ later) new = IfLast later (new.run.turns ≡ old.run.turns)
TurnsOneByOne old (OutOfMemory ∷ later) new = IfLast later (new.run.turns ≡ old.run.turns)

-- By no turns a station stays, and no text at all is of this kind.
pub record NoTurns (old : Station) (P : List ℕ → Type 0) (new : Station) : Type 0 where
  pub same : new ≡ old
  pub writes : P []

-- what turns with these answers lead to, in which a text of this kind was written: by none a station stays; by some,
-- wherever its run stood, it comes to what they end with
abbrev pub TurnsLeadTo : Station → List MemberTurn → (List ℕ → Type 0) → Station → Type 0
TurnsLeadTo old [] P new = NoTurns old P new
TurnsLeadTo old (answer ∷ later) P new = (settings : StationSettings) (c : Course) (items : List Item)
    → StationStands settings c items old → TurnsComeTo (end_of_turns (answer ∷ later)) settings c items P new

-- A station became another by turns with these answers, in which it wrote a text of this kind.
pub record StationTurned (old : Station) (answers : List MemberTurn) (P : List ℕ → Type 0) (new : Station)
    : Type 0 where
  pub one_by_one : TurnsOneByOne old answers new
  pub leads_to : TurnsLeadTo old answers P new
