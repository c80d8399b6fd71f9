-- What a run does that serves a modelled console: its two readings, its one connect, the serving, and what is given of
-- it.
use Rattle.std.specs.Prelude.{ℕ, ◌≡◌, ◌⊎◌, List, [], ◌∷◌, ◌++◌, IfErr, IfOk, codes, decimal}
use Rattle.std.specs.declared.result.Result.{Result}
use Rattle.causes.specs.Cause.{Rose}
use Rattle.command_words.specs.Command.{ConsoleNames}
use Rattle.console_model.specs.Console as model
use Rattle.console_model.specs.Standing.{ConsoleStandsFor}
use Rattle.console_model.specs.declared.console.Console.{Console}
use Rattle.console_server.specs.Ready.{ticked}
use Rattle.console_server.specs.Serving.{ServesTurns}
use Rattle.console_server.specs.declared.serving.ServeEnd.{ServeEnd}
use Rattle.console_server.specs.declared.serving.ServeEnd.TheVariants as serve_end
use Rattle.console_server.specs.declared.serving.Served.{Served}
use Rattle.eeprom_map.specs.Memory.{new_memory}
use Rattle.loop_packet.specs.declared.packet.LoopPacket.{LoopPacket}
use Rattle.run_output.specs.Calls.{calls}
use Rattle.run_output.specs.Ended.{Lines, output_of}
use Rattle.run_output.specs.Output.{Output, link_fault, no_memory}
use Rattle.run_output.specs.Outside.{Meanings, over_files, over_link}
use Rattle.run_output.specs.Reading.{settles}
use Rattle.run_output.specs.Steps as steps
use Rattle.run_output.specs.Steps.{then}
use Rattle.run_output.specs.declared.outside.Outside.{Outside}
use Rattle.run_output.specs.declared.status.Status.TheVariants as ends
use Rattle.schedule_replay.specs.Replayed.{steps_in}
use Rattle.serial_link.specs.Link.{Talks}
use Rattle.serial_link.specs.Traffic.{Traffic}
use Rattle.serial_link.specs.declared.link.Side.TheVariants.{Serve}
use Rattle.replay_laws.specs.Schedule.{ReplayStep}
use Rattle.station_sim.specs.Line.{due_all}
use Rattle.model_commands.specs.BlankPacket.{blank_packet}
use Rattle.model_commands.specs.ScheduleReading.{reads_schedule}

-- the console after the steps before the first round: records fell due and ticks passed, and openings change nothing
abbrev pub before_rounds : List ReplayStep → model.Console → model.Console
before_rounds [] k = k
before_rounds (ReplayStep.Due records ∷ steps) k = before_rounds steps (due_all records k)
before_rounds (ReplayStep.Idle ticks ∷ steps) k = before_rounds steps (ticked ticks k)
before_rounds (ReplayStep.Open stop ∷ steps) k = before_rounds steps k
before_rounds (ReplayStep.Round fates left stop ∷ steps) k = k

-- no step is a round
abbrev pub HaveNoRound : List ReplayStep → Type 0
HaveNoRound [] = Unit {0}
HaveNoRound (ReplayStep.Due records ∷ steps) = HaveNoRound steps
HaveNoRound (ReplayStep.Idle ticks ∷ steps) = HaveNoRound steps
HaveNoRound (ReplayStep.Open stop ∷ steps) = HaveNoRound steps
HaveNoRound (ReplayStep.Round fates left stop ∷ steps) = ⊥

-- a new console of this period, after the steps before the first round
abbrev pub console_served : ℕ → LoopPacket → List ReplayStep → model.Console
console_served period packet steps = before_rounds steps (model.fresh_console (new_memory period) packet)

-- `served`, and the numbers of bytes heard and said
abbrev pub served_line : Served → List ℕ
served_line count = codes "served " ++ decimal count.heard ++ codes " " ++ decimal count.said ++ codes "\n"

-- what is written of a serving that ended so
abbrev pub served_output : ServeEnd → Served → Output
served_output serve_end.Done count = record { text = served_line count; status = ends.Done }
served_output serve_end.LinkFault count = link_fault
served_output serve_end.OutOfMemory count = no_memory

-- nothing was heard or said
abbrev pub unserved : Served
unserved = record { heard = 0; said = 0 }

-- a console in memory stands for the one to be served, with the blank packet
abbrev pub readied : ℕ → List ReplayStep → Console → Type 0
readied period steps console = ConsoleStandsFor console (console_served period blank_packet steps)

-- such a console was made, or there was no memory for it
abbrev pub readies : {W : Type 0} → ℕ → List ReplayStep → steps.CommandStep W Console
readies period steps old result new =
    IfOk result (readied period steps) × IfErr result (λ output. output ≡ no_memory) × (new ≡ old)

-- The console was served over the link for so many turns, and what came of that is given. The serving ended by a fault
-- of the link, or for want of memory, only where the link's own count of that rose.
pub record serves {L : Type 0} (traffic : Traffic L) (before : Console) (turns : ℕ)
    (old : L) (result : Result Lines Output) (new : L) : Type 0 where
  pub after : Console
  pub end : ServeEnd
  pub count : Served
  pub talks : Talks traffic old (ServesTurns end turns before after unserved count)
      (end ≡ serve_end.LinkFault) (end ≡ serve_end.OutOfMemory) new
  pub given : output_of result ≡ served_output end count

-- The settings are read and judged, then the schedule for their period, the console is made, a call is waited for at
-- the address, and the console is served over it.
abbrev pub serves_files : {F K L D : Type 0} → Meanings F K L D → ConsoleNames
    → steps.CommandStep (Outside F K L D) Lines
serves_files m names =
    then (over_files (settles m.shelf names.settings)) (λ settings.
    then (over_files (reads_schedule m.shelf names.schedule settings.period)) (λ schedule.
    then (readies schedule.period (steps_in schedule)) (λ console.
    then (over_link (calls m.traffic Serve names.address)) (λ _.
    over_link (serves m.traffic console names.turns)))))

-- the link is as it was, or it was short of memory
abbrev pub IsUntouchedOrShort : {L : Type 0} → Traffic L → L → L → Type 0
IsUntouchedOrShort traffic old new = (new ≡ old) ⊎ Rose (traffic.shortages old) (traffic.shortages new)
