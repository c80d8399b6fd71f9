use Rattle.std.proofs.Common.{◌≡◌, Err, rules}
use Rattle.schedule_replay.proofs.Ahead.{holds_ready}
use Rattle.schedule_replay.proofs.run.Run.recover.Goals as goal

pub returns-in_err-session-clause-err : goal.returns-in_err-session-clause-err
returns-in_err-session-clause-err g c =
    let given : c.from_residual.result ≡ Err c.in_err-session.field-0.0 = search rules in
    rw given (λ openings s h. c.in_err-session.ensures.err openings s h)

pub returns-clause-ok : goal.returns-clause-ok
returns-clause-ok g c openings s h =
    let x = c.in_ok-session.ensures.ok openings s h in
    (holds_ready openings c.args.settings.now s c.ready.new.self c.in_ok-session.session c.ready.new.disk x.0, x.1)
