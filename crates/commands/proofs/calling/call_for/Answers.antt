use Rattle.std.proofs.Common.{refl, rules}
use Rattle.run_output.proofs.Behind.{ended, went_on}
use Rattle.commands.proofs.calling.call_for.Goals as goal

pub returns-in_err-connect : goal.returns-in_err-connect
returns-in_err-connect g c =
    ended _ _ _ _ c.connect.result _ c.in_err-connect.field-0.0 (c.connect.ensures, refl) c.in_err-connect.was (search rules)

pub returns : goal.returns
returns g c =
    went_on _ _ _ (record c.args.outside.now { link = c.connect.new.link }) _ c.connect.result _ c.in_ok-connect.field-0 (c.connect.ensures, refl)
    c.in_ok-connect.was (c.make_task.ensures, refl)
