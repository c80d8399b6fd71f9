use Rattle.std.proofs.Common.{refl, rules}
use Rattle.run_output.proofs.Behind.{ended, went_on}
use Rattle.commands.proofs.recovering.read_archive.Goals as goal

pub returns-in_err-attach : goal.returns-in_err-attach
returns-in_err-attach g c = ended _ _ _ _ _ _ _ (c.attach.ensures, refl) c.in_err-attach.was (search rules)

pub returns : goal.returns
returns g c = went_on _ _ _ _ _ _ _ _ (c.attach.ensures, refl) c.in_ok-attach.was (c.recover.ensures, refl)
