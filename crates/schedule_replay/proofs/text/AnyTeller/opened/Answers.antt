use Rattle.replay_laws.specs.Replay.{Item}
use Rattle.schedule_replay.proofs.Sinks.{told_one}
use Rattle.schedule_replay.proofs.text.AnyTeller.opened.Goals as goal

pub returns-clause-tells : goal.returns-clause-tells
returns-clause-tells g c settings rows goes = told_one g.K.Sink.outlet c.args.self.now c.write_opening.new.out (Item.Opened rows c.args.told) c.write_opening.result (c.write_opening.ensures.text settings rows goes)
