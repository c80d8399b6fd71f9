use Rattle.replay_laws.specs.Replay.{Item}
use Rattle.schedule_replay.proofs.Sinks.{told_one}
use Rattle.schedule_replay.proofs.text.AnyTeller.ended.Goals as goal

pub returns-clause-tells : goal.returns-clause-tells
returns-clause-tells g c settings rows goes = told_one g.K.Sink.outlet c.args.self.now c.write_end.new.out (Item.Ended rows) c.write_end.result (c.write_end.ensures.text settings rows goes)
