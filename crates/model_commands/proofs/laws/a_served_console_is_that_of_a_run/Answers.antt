use Rattle.std.proofs.Common.{◌∙◌}
use Rattle.console_model.specs.Console.{fresh_console}
use Rattle.eeprom_map.specs.Memory.{new_memory}
use Rattle.replay_laws.specs.Replay.{start}
use Rattle.model_commands.proofs.BeforeRounds.{before_first, run_before}
use Rattle.model_commands.proofs.laws.a_served_console_is_that_of_a_run.Goals as goal

pub returns : goal.returns
returns c = record {
  first_round = λ settings period packet xs ys f left stop none is u runs.
      before_first xs ys f left stop (fresh_console (new_memory period) packet) none
      ∙ run_before settings xs (start (new_memory period) packet) u is none runs;
  no_round = λ settings period packet xs none is u runs. run_before settings xs (start (new_memory period) packet) u is none runs;
}
