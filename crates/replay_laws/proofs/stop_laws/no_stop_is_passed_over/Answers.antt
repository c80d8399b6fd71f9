use Rattle.disk_model.specs.Stopping.{stopping_state_of}
use Rattle.replay_laws.proofs.PassedStops.{round_passes}
use Rattle.replay_laws.proofs.stop_laws.no_stop_is_passed_over.Goals as goal

pub returns : goal.returns
returns c settings a ts stop round is armed =
    round_passes settings a.rows ts stop round.stores.failed (stopping_state_of c.args.old.now) (stopping_state_of c.args.new.now) is armed round.stores.went_on.state
