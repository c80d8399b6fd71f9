use Rattle.std.proofs.Common.{◌^◌}
use Rattle.std.specs.Prelude.{vec_len}
use Rattle.model_commands.proofs.NewStations.{few_left}
use Rattle.model_commands.proofs.fleet_run.take_turns.Goals as goal

pub run-requires-clause-few : goal.run-requires-clause-few
run-requires-clause-few g c = few_left _ (vec_len c.args.stations) (c.new-fleet.ensures.left (2 ^ 48) c.requires.left) c.requires.few
