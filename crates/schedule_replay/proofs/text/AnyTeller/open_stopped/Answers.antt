use Rattle.replay_laws.specs.Replay.{Item}
use Rattle.schedule_replay.proofs.Sinks.{told_one}
use Rattle.schedule_replay.proofs.text.AnyTeller.open_stopped.Goals as goal

pub returns-clause-tells : goal.returns-clause-tells
returns-clause-tells g c rows = told_one g.K.Sink.outlet c.args.self.now c.write_stopped_opening.new.out (Item.OpenStopped c.args.change rows) c.write_stopped_opening.result (c.write_stopped_opening.ensures.text rows)
