use Rattle.replay_laws.specs.Replay.{Item}
use Rattle.schedule_replay.proofs.Sinks.{told_one}
use Rattle.schedule_replay.proofs.text.AnyTeller.round.Goals as goal

pub returns-clause-tells : goal.returns-clause-tells
returns-clause-tells g c x tells goes = told_one g.K.Sink.outlet c.args.self.now c.write_round.new.out (Item.Ran x) c.write_round.result (c.write_round.ensures.text x tells goes)
