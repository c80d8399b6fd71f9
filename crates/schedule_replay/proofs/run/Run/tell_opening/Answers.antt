use Rattle.std.proofs.Common.{◌≡◌, Err, rules}
use Rattle.schedule_replay.proofs.run.Run.tell_opening.Goals as goal

pub returns-in_err-opened-clause-tells : goal.returns-in_err-opened-clause-tells
returns-in_err-opened-clause-tells g c settings rows goes =
    let given : c.from_residual.result ≡ Err c.in_err-opened.field-0.0 = search rules in
    rw given (c.in_err-opened.ensures.tells settings rows goes)
