use Rattle.disk_model.specs.Stopping.{stopping_state_of, stopping_medium}
use Rattle.replay_laws.proofs.Stops.{round_stops}
use Rattle.replay_laws.proofs.stop_laws.a_stopped_round.Goals as goal

pub returns : goal.returns
returns c settings a ts stop image round stands fault start room was again =
    round_stops stopping_medium settings a ts stop c.args.old.now c.args.new.now round.book round.next round.marks (stopping_state_of c.args.old.now) (stopping_state_of c.args.new.now) image fault start round.stores stands (λ failed h. h.state) room was again
