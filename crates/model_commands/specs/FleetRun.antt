-- What a run does in which stations take turns: its readings, the stations, and how their turns end.
use Rattle.std.specs.Prelude.{ℕ, ◌≡◌, ◌<◌, ◌≤◌, List, [], ◌∷◌, ◌++◌, IfErr, IfOk, IsOkAnd, IsSomeAnd, codes, decimal}
use Rattle.std.specs.Prelude.{length, slice_index_or}
use Rattle.std.specs.Global.{Vec}
use Rattle.std.specs.List.{AllZip}
use Rattle.std.specs.declared.result.Result.{Result}
use Rattle.command_words.specs.Command.{FleetNames}
use Rattle.disk_model.specs.declared.mem_disk.MemDisk.{MemDisk}
use Rattle.disk_model.specs.declared.stopping.Stopping.{Stopping}
use Rattle.eeprom_map.specs.Memory.{new_memory}
use Rattle.fleet.specs.Crew.{Crew, CrewIsReady}
use Rattle.fleet.specs.FleetEnds.{RunsFleet}
use Rattle.fleet.specs.declared.member.MemberTurn.TheVariants.{Ended, More}
use Rattle.fleet.specs.declared.run.FleetEnd.{FleetEnd}
use Rattle.fleet.specs.declared.run.FleetEnd.TheVariants as fleet_end
use Rattle.run_output.specs.Ended.{Lines, output_of}
use Rattle.run_output.specs.Output.{Output, no_memory, write_fault}
use Rattle.run_output.specs.Outside.{Meanings, over_files, over_out}
use Rattle.run_output.specs.Reading.{settles}
use Rattle.run_output.specs.Steps as steps
use Rattle.run_output.specs.Steps.{then}
use Rattle.run_output.specs.declared.outside.Outside.{Outside}
use Rattle.run_output.specs.declared.status.Status.TheVariants as ends
use Rattle.schedule_file.specs.declared.schedule.Schedule.{Schedule}
use Rattle.schedule_replay.specs.Replayed.{IsNewDisk}
use Rattle.schedule_replay.specs.Standing.{LineAt}
use Rattle.schedule_replay.specs.Turns.{RunIsNew}
use Rattle.settings_file.specs.Reading.{settings_of}
use Rattle.settings_file.specs.StationSettings.{StationSettings}
use Rattle.station_fleet.specs.Outcomes.{StationStands}
use Rattle.station_fleet.specs.StationTurns.{station_turning}
use Rattle.station_fleet.specs.declared.station.Station.{Station}
use Rattle.station_io.specs.Files.{Shelf, most_bytes}
use Rattle.station_io.specs.Sink.{Outlet}
use Rattle.replay_laws.specs.Replay.{start}
use Rattle.station_sim.specs.declared.sim.Sim.{Sim}
use Rattle.model_commands.specs.BlankPacket.{blank_packet}
use Rattle.model_commands.specs.ReplayRun.{IsGoodSchedule}
use Rattle.model_commands.specs.ScheduleReading.{reads_schedule}

-- there is memory, or the run ends for want of it
abbrev pub finds_memory : {W : Type 0} → steps.CommandStep W (Unit {0})
finds_memory old result new = IfErr result (λ output. output ≡ no_memory) × (new ≡ old)

-- the files of schedules are read one after another, for consoles of this period, and their schedules are given behind
-- those that were read
abbrev pub reads_schedules : {F K L D : Type 0} → Meanings F K L D → ℕ → List Schedule → List (List ℕ)
    → steps.CommandStep (Outside F K L D) (Vec Schedule)
reads_schedules m period given [] old result new = IsOkAnd result (λ schedules. schedules.items ≡ given) × (new ≡ old)
reads_schedules m period given (name ∷ names) old result new =
    then (over_files (reads_schedule m.shelf name period)) (λ schedule.
    then finds_memory (λ _. reads_schedules m period (given ++ schedule ∷ []) names)) old result new

-- A station that runs this schedule and has taken no turn. It has a line to a new console of the settings' period, with
-- the blank packet, and a new disk that has room for the schedule's records.
pub record IsNewStation (settings : StationSettings) (schedule : Schedule) (s : Station) : Type 0 where
  pub is_new : RunIsNew s.run
  pub before : Sim
  pub made : Stopping MemDisk
  pub line : LineAt (start (new_memory settings.period) blank_packet) before
  pub disk : IsNewDisk schedule.records (new_memory settings.period) blank_packet made
  pub stands : StationStands settings
      (record {
        eeprom = new_memory settings.period;
        packet = blank_packet;
        steps = schedule.steps.items;
        before = before;
        made = made;
      }) [] s

-- a station is made for each schedule, or there is no memory for them
abbrev pub makes_stations : {W : Type 0} → StationSettings → List Schedule → steps.CommandStep W (Vec Station)
makes_stations settings schedules old result new =
    IfOk result (λ stations. AllZip (IsNewStation settings) schedules stations.items)
    × IfErr result (λ output. output ≡ no_memory) × (new ≡ old)

-- `fleet stations`, how many there are, and the numbers of turns and switches
abbrev pub fleet_line : ℕ → ℕ → ℕ → List ℕ
fleet_line stations turns switches =
    codes "fleet stations " ++ decimal stations ++ codes " turns " ++ decimal turns ++ codes " switches "
    ++ decimal switches ++ codes "\n"

-- what is written behind the turns of so many stations that ended so
abbrev pub fleet_output : ℕ → FleetEnd → Output
fleet_output stations (fleet_end.Done turns switches) =
    record { text = fleet_line stations turns switches; status = ends.Done }
fleet_output stations (fleet_end.Unseen station) = record { text = []; status = ends.Unseen }
fleet_output stations fleet_end.WriteFault = write_fault
fleet_output stations fleet_end.OutOfMemory = no_memory

-- The stations, of which none had ended, took turns as they were drawn behind the seed. The sink took the lines of
-- their turns, each with the number of its station, and what came of that is given.
pub record takes_turns {S : Type 0} (outlet : Outlet S) (seed : ℕ) (stations : List Station) (old : S)
    (result : Result Lines Output)
    (new : S) : Type 0 where
  pub opening : Crew Station
  pub after : Crew Station
  pub members : opening.members ≡ stations
  pub none_ended : (k : ℕ) → k < length stations → slice_index_or opening.last k Ended ≡ More
  pub ready : CrewIsReady station_turning opening
  pub end : FleetEnd
  pub ran : RunsFleet station_turning outlet seed opening old end after new
  pub given : output_of result ≡ fleet_output (length stations) end

-- The settings are read and judged, then each schedule for their period, in the order of their names. Then the stations
-- are made, and take turns.
abbrev pub fleets : {F K L D : Type 0} → Meanings F K L D → FleetNames → steps.CommandStep (Outside F K L D) Lines
fleets m names =
    then (over_files (settles m.shelf names.settings)) (λ settings.
    then (reads_schedules m settings.period [] names.schedules) (λ schedules.
    then (makes_stations settings schedules.items) (λ stations.
    over_out (takes_turns m.outlet names.seed stations.items))))

-- the files of these names are told and hold schedules for this period
abbrev pub AreGoodSchedules : {F : Type 0} → Shelf F → F → ℕ → List (List ℕ) → Type 0
AreGoodSchedules shelf files period [] = Unit {0}
AreGoodSchedules shelf files period (name ∷ names) =
    IsSomeAnd (shelf.held files name) (IsGoodSchedule period) × AreGoodSchedules shelf files period names

-- settings that are not too long and are accepted, beside files that hold schedules for their period
abbrev pub HasGoodFleet : {F : Type 0} → Shelf F → FleetNames → F → Type 0
HasGoodFleet shelf names files = IsSomeAnd (shelf.held files names.settings) (λ text. (length text ≤ most_bytes)
    × IsOkAnd (settings_of text) (λ settings. AreGoodSchedules shelf files settings.period names.schedules))
