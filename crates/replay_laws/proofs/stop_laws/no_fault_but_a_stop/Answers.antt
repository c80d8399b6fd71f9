use Rattle.disk_model.specs.Stopping.{stopping_state_of, stopping_medium}
use Rattle.replay_laws.proofs.Stops.{round_sure}
use Rattle.replay_laws.proofs.stop_laws.no_fault_but_a_stop.Goals as goal

pub returns : goal.returns
returns c settings a ts pick round room =
    round_sure stopping_medium settings a ts pick c.args.old.now c.args.new.now round.book round.next round.marks (stopping_state_of c.args.old.now) (stopping_state_of c.args.new.now) round.stores (λ failed h. h.state) room
