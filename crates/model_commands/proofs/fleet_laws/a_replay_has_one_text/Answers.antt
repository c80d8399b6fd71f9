use Rattle.model_commands.proofs.OneReplay.{replayed_alike}
use Rattle.model_commands.proofs.fleet_laws.a_replay_has_one_text.Goals as goal

pub returns : goal.returns
returns g c settings steps old new from to first second one two told also =
    replayed_alike g.K.Sink.outlet g.S.Sink.outlet settings steps old new from to first second one two told also
