use Rattle.std.proofs.Common.{◌≡◌, drop}
use Rattle.std.specs.Prelude.{All, vec_len}
use Rattle.command_words.specs.Command.{texts}
use Rattle.run_output.specs.Outside.{means}
use Rattle.model_commands.specs.ScheduleReading.{IsFit}
use Rattle.model_commands.proofs.ScheduleFiles.{Completes}
use Rattle.model_commands.proofs.fleet_run.read_schedules.Given as goal

-- what reads the other schedules behind those that were read reads all
abbrev pub invariant-loop-name : goal.invariant-loop-name
invariant-loop-name g l = record {
  completes : Completes (means g.F.Files.shelf g.K.Sink.outlet g.L.Link.traffic g.D.Disk.medium) l.period l.schedules.items
      (texts (drop l.name-index l.names)) (texts l.names) l.initial.outside l.outside;
  fit : All (IsFit l.period) l.schedules.items;
  as_many : vec_len l.schedules ≡ l.name-index;
}
