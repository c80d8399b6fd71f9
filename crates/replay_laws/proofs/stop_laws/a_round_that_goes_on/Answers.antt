use Rattle.disk_model.specs.Stopping.{stopping_state_of, stopping_medium}
use Rattle.replay_laws.proofs.Stops.{round_goes}
use Rattle.replay_laws.proofs.stop_laws.a_round_that_goes_on.Goals as goal

pub returns : goal.returns
returns c settings a ts end stop pick round sure none is start room =
    round_goes stopping_medium settings a ts end stop pick c.args.old.now c.args.new.now round.book round.next round.marks (stopping_state_of c.args.old.now) (stopping_state_of c.args.new.now) sure none is start round.stores (λ failed h. h.state) room
