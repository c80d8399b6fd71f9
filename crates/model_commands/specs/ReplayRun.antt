-- What a run does that replays a schedule: its two readings, and what is written of the replay.
use Rattle.std.specs.Prelude.{ℕ, ◌≡◌, ◌≢◌, ◌≤◌, true, false, List, [], length, IsOk, IsOkAnd, IsSomeAnd}
use Rattle.std.specs.declared.option.Option.{Option}
use Rattle.std.specs.declared.result.Result.{Result}
use Rattle.causes.specs.Cause.{Cause}
use Rattle.eeprom_map.specs.Memory.{new_memory}
use Rattle.run_output.specs.Ended.{Lines, output_of}
use Rattle.run_output.specs.Output.{Output}
use Rattle.run_output.specs.Outside.{Meanings, over_files, over_out}
use Rattle.run_output.specs.Reading.{settles}
use Rattle.run_output.specs.Steps as steps
use Rattle.run_output.specs.Steps.{then}
use Rattle.run_output.specs.declared.outside.Outside.{Outside}
use Rattle.run_output.specs.declared.status.Status.{Status}
use Rattle.run_output.specs.declared.status.Status.TheVariants as ends
use Rattle.schedule_file.specs.Reading.{said_by_text}
use Rattle.schedule_replay.specs.Replayed.{ReplayIsCutOff, IsReplayed, steps_in}
use Rattle.schedule_replay.specs.declared.replaying.ReplayEnd.{ReplayEnd}
use Rattle.schedule_replay.specs.declared.replaying.ReplayEnd.TheVariants as replay_end
use Rattle.settings_file.specs.Reading.{settings_of}
use Rattle.settings_file.specs.StationSettings.{StationSettings}
use Rattle.station_io.specs.Files.{Shelf, most_bytes}
use Rattle.station_io.specs.Sink.{Outlet}
use Rattle.replay_laws.specs.Replay.{Stage, start}
use Rattle.replay_laws.specs.Schedule.{ReplayStep}
use Rattle.model_commands.specs.BlankPacket.{blank_packet}
use Rattle.model_commands.specs.ScheduleReading.{reads_schedule}

-- the status of a run whose replay ended so
abbrev pub replay_status : ReplayEnd → Status
replay_status replay_end.Done = ends.Done
replay_status replay_end.Unseen = ends.Unseen
replay_status replay_end.WriteFault = ends.WriteFault
replay_status replay_end.OutOfMemory = ends.OutOfMemory

-- what is written of a run, by how its replay ends: all its items, those up to a delivery that was unseen, or a prefix
abbrev pub WritesRun : ReplayEnd → StationSettings → Stage → List ReplayStep → Option (List ℕ) → Option (List ℕ)
    → Type 0
WritesRun replay_end.Done settings from steps old new = IsReplayed false settings from steps old new
WritesRun replay_end.Unseen settings from steps old new = IsReplayed true settings from steps old new
WritesRun other settings from steps old new = ReplayIsCutOff settings from steps old new

-- The steps were run over a new console of the settings' period, with the blank packet, and an archive that was never
-- opened. What is kept of the run is written, or a prefix of it, and no last line is left.
pub record replays {S : Type 0} (outlet : Outlet S) (settings : StationSettings) (steps : List ReplayStep)
    (old : S) (result : Result Lines Output) (new : S) : Type 0 where
  pub end : ReplayEnd
  pub written : WritesRun end settings (start (new_memory settings.period) blank_packet) steps (outlet.taken old)
      (outlet.taken new)
  pub cause : Cause (outlet.faults old) (outlet.faults new) (end ≡ replay_end.WriteFault)
  pub still : end ≢ replay_end.WriteFault → outlet.faults new ≡ outlet.faults old
  pub given : output_of result ≡ record { text = []; status = replay_status end }

-- The settings are read and judged, then the schedule for their period, and it is replayed.
abbrev pub replays_files : {F K L D : Type 0} → Meanings F K L D → List ℕ → List ℕ
    → steps.CommandStep (Outside F K L D) Lines
replays_files m settings schedule =
    then (over_files (settles m.shelf settings)) (λ settings.
    then (over_files (reads_schedule m.shelf schedule settings.period)) (λ schedule.
    over_out (replays m.outlet settings (steps_in schedule))))

-- a schedule that is not too long and is accepted, for this period
abbrev pub IsGoodSchedule : ℕ → List ℕ → Type 0
IsGoodSchedule period text = (length text ≤ most_bytes) × IsOk (said_by_text text period)

-- settings that are not too long and are accepted, beside a file that holds a schedule for their period
abbrev pub AreGoodSettings : Option (List ℕ) → List ℕ → Type 0
AreGoodSettings schedule text =
    (length text ≤ most_bytes)
    × IsOkAnd (settings_of text) (λ settings. IsSomeAnd schedule (IsGoodSchedule settings.period))

-- both files are told and good
abbrev pub HasGoodFiles : {F : Type 0} → Shelf F → List ℕ → List ℕ → F → Type 0
HasGoodFiles shelf settings schedule files =
    IsSomeAnd (shelf.held files settings) (AreGoodSettings (shelf.held files schedule))
