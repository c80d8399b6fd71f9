-- A line to a new console stands where a run begins.
use Rattle.std.proofs.Common.{◌≡◌, ℕ, List, Ok, Err}
use Rattle.std.specs.Prelude.{IfOk}
use Rattle.std.specs.declared.result.Result.{Result}
use Rattle.causes.specs.declared.OutOfMemory.{OutOfMemory}
use Rattle.console_model.specs.Console as model
use Rattle.console_model.specs.Console.{fresh_console}
use Rattle.console_model.specs.Standing.{ConsoleStandsFor}
use Rattle.console_model.specs.declared.console.Console.{Console}
use Rattle.loop_packet.specs.declared.packet.LoopPacket.{LoopPacket}
use Rattle.schedule_file.specs.Lists.{fates_of, no_fates}
use Rattle.station_sim.specs.Sound.{IsSound}
use Rattle.station_sim.specs.Standing.{SimStandsFor}
use Rattle.station_sim.specs.Talk.{fresh_line}
use Rattle.station_sim.specs.declared.sim.Sim.{Sim}
use Rattle.replay_laws.proofs.Minutes.{new_sound}
use Rattle.replay_laws.specs.Replay.{start}
use Rattle.schedule_replay.specs.Standing.{LineAt}

pub begins_line : (eeprom : List ℕ) (packet : LoopPacket) (console : Console) (made : Result Sim OutOfMemory) → ConsoleStandsFor console (fresh_console eeprom packet)
    → IfOk made (λ sim. (k : model.Console) → ConsoleStandsFor console k → IsSound (fresh_line k) → SimStandsFor sim (fresh_line k))
    → IfOk made (λ sim. fates_of sim.fates ≡ no_fates) → IfOk made (λ line. LineAt (start eeprom packet) line)
begins_line eeprom packet console (Ok sim) is stands fates = record { stands = stands (fresh_console eeprom packet) is (new_sound eeprom packet); fates = fates }
begins_line eeprom packet console (Err wanted) is stands fates = tt
