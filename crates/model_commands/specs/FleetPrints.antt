-- What the stations of a fleet print, beside replays of their schedules.
use Rattle.std.specs.Prelude.{ℕ, ◌≡◌, ◌≤◌, ◌⊎◌, ◌-◌, List, [], ◌∷◌, Ok, Some, slice_get}
use Rattle.std.specs.Global.{Vec}
use Rattle.std.specs.Io.KnownBytes.{Appends}
use Rattle.std.specs.declared.result.Result.{Result}
use Rattle.causes.specs.Lists.{IsFrontOf}
use Rattle.command_words.specs.Command.{FleetNames}
use Rattle.eeprom_map.specs.Memory.{new_memory}
use Rattle.fleet.specs.StationLines.{station_lines}
use Rattle.run_output.specs.Ended.{IsOneOf, Lines, output_of}
use Rattle.run_output.specs.Output.{Output}
use Rattle.run_output.specs.Outside.{Meanings, over_files}
use Rattle.run_output.specs.Reading.{settles}
use Rattle.run_output.specs.declared.outside.Outside.{Outside}
use Rattle.run_output.specs.declared.status.Status.{Status}
use Rattle.run_output.specs.declared.status.Status.TheVariants as ends
use Rattle.schedule_file.specs.declared.schedule.Schedule.{Schedule}
use Rattle.schedule_replay.specs.Replayed.{steps_in}
use Rattle.settings_file.specs.StationSettings.{StationSettings}
use Rattle.station_io.specs.Sink.{Outlet}
use Rattle.replay_laws.specs.Kept.{Kept}
use Rattle.replay_laws.specs.Replay.{IsReplay, Item, RunIsBegun, start}
use Rattle.replay_laws.specs.Schedule.{ReplayStep, records}
use Rattle.replay_laws.specs.Texts.{text}
use Rattle.model_commands.specs.BlankPacket.{blank_packet}
use Rattle.model_commands.specs.FleetRun.{reads_schedules}
use Rattle.model_commands.specs.ReplayRun.{replays}

-- to its end, or up to a delivery that was unseen
abbrev pub told_to_end : List Status
told_to_end = ends.Done ∷ ends.Unseen ∷ []

-- a run with this result was written to its end, or up to a delivery that was unseen
abbrev pub IsToldToEnd : Result Lines Output → Type 0
IsToldToEnd result = IsOneOf told_to_end (output_of result).status

-- the bytes that a sink tells grow by what is written
abbrev pub TellsWhatIsWritten : {S : Type 0} → Outlet S → Type 0
TellsWhatIsWritten {S} outlet = (before after : S) (bytes : List ℕ) → outlet.wrote before bytes after
    → Appends (outlet.taken before) (outlet.taken after) bytes

-- These lines are the text of a run of the schedule under these settings, from a new console and an archive that was
-- never opened.
pub record IsTextOfRun (settings : StationSettings) (schedule : Schedule) (lines : List ℕ) : Type 0 where
  pub run : List Item
  pub is_run : IsReplay settings (start (new_memory settings.period) blank_packet) (steps_in schedule) run
  pub lines_are : lines ≡ text run

-- the lines of each station, without its number, are the text of a run of its schedule
abbrev pub EachPrintsItsRun : StationSettings → List Schedule → List ℕ → Type 0
EachPrintsItsRun settings schedules bytes = (station : ℕ) (schedule : Schedule) → 1 ≤ station
    → slice_get schedules (station - 1) ≡ Some schedule → IsTextOfRun settings schedule (station_lines station bytes)

-- These lines are a prefix of the text of a run of these steps under these settings, or of the beginning of one, from a
-- new console and an archive that was never opened. All is kept of it.
pub record IsFrontOfRun (settings : StationSettings) (steps : List ReplayStep) (lines : List ℕ) : Type 0 where
  pub run : List Item
  pub is_begun : RunIsBegun settings (start (new_memory settings.period) blank_packet) steps run
      ⊎ IsReplay settings (start (new_memory settings.period) blank_packet) steps run
  pub kept : Kept settings (records steps) run
  pub front : IsFrontOf lines (text run)

-- the lines of each station, without its number, are a prefix of the text of a run of its schedule, or of its beginning
abbrev pub EachBeginsItsRun : StationSettings → List Schedule → List ℕ → Type 0
EachBeginsItsRun settings schedules bytes = (station : ℕ) (schedule : Schedule) → 1 ≤ station
    → slice_get schedules (station - 1) ≡ Some schedule
    → IsFrontOfRun settings (steps_in schedule) (station_lines station bytes)

-- The sink took a text of which the lines of each station begin a run of its schedule. If the sink tells its bytes by
-- what is written, they grew by this text.
pub record BeginsReplays {K : Type 0} (outlet : Outlet K) (settings : StationSettings) (schedules : List Schedule)
    (old new : K) : Type 0 where
  pub bytes : List ℕ
  pub wrote : outlet.wrote old bytes new
  pub taken : TellsWhatIsWritten outlet → Appends (outlet.taken old) (outlet.taken new) bytes
  pub runs : EachBeginsItsRun settings schedules bytes

-- what each replay of the schedule under these settings writes that comes to its end
abbrev pub IsWhatReplaysWrite : {S : Type 0} → Outlet S → StationSettings → Schedule → List ℕ → Type 0
IsWhatReplaysWrite {S} outlet settings schedule lines = (old new : S) (result : Result Lines Output)
    → replays outlet settings (steps_in schedule) old result new → IsToldToEnd result
    → Appends (outlet.taken old) (outlet.taken new) lines

-- the lines of each station, without its number, are what each replay of its schedule writes
abbrev pub EachPrintsItsReplay : {S : Type 0} → Outlet S → StationSettings → List Schedule → List ℕ → Type 0
EachPrintsItsReplay outlet settings schedules bytes = (station : ℕ) (schedule : Schedule) → 1 ≤ station
    → slice_get schedules (station - 1) ≡ Some schedule
    → IsWhatReplaysWrite outlet settings schedule (station_lines station bytes)

-- The sink took a text of which the lines of each station are those of its schedule: the text of its run, and what each
-- replay writes to a sink of another kind. If the sink tells its bytes by what is written, they grew by this text.
pub record PrintsReplays {K S : Type 0} (outlet : Outlet K) (other : Outlet S) (settings : StationSettings)
    (schedules : List Schedule)
    (old new : K) : Type 0 where
  pub bytes : List ℕ
  pub wrote : outlet.wrote old bytes new
  pub taken : TellsWhatIsWritten outlet → Appends (outlet.taken old) (outlet.taken new) bytes
  pub runs : EachPrintsItsRun settings schedules bytes
  pub replays : EachPrintsItsReplay other settings schedules bytes

-- The files of these names were read as these settings and these schedules, one after another.
pub record ReadsFleet {F K L D : Type 0} (m : Meanings F K L D) (names : FleetNames) (settings : StationSettings)
    (schedules : Vec Schedule)
    (old : Outside F K L D) : Type 0 where
  pub settled : Outside F K L D
  pub read : Outside F K L D
  pub settles_so : over_files (settles m.shelf names.settings) old (Ok settings) settled
  pub reads_so : reads_schedules m settings.period [] names.schedules settled (Ok schedules) read

-- Two replays that came to their ends ended alike, and wrote one text.
pub record ReplayedAlike {K S : Type 0} (outlet : Outlet K) (other : Outlet S) (old new : K) (from to : S)
    (first second : Result Lines Output) : Type 0 where
  pub status : (output_of first).status ≡ (output_of second).status
  pub bytes : List ℕ
  pub one : Appends (outlet.taken old) (outlet.taken new) bytes
  pub two : Appends (other.taken from) (other.taken to) bytes
