use Rattle.std.proofs.Common.{refl, rules}
use Rattle.run_output.proofs.Behind.{ended, went_on}
use Rattle.commands.proofs.entries.soft_rows.Goals as goal

pub returns-in_err-settings : goal.returns-in_err-settings
returns-in_err-settings g c =
    ended _ _ _ _ c.settle.result _ c.in_err-settings.field-0.0 (c.settle.ensures, refl) c.in_err-settings.was (search rules)

pub returns-in_err-file : goal.returns-in_err-file
returns-in_err-file g c =
    went_on _ _ _ (record c.args.outside.now { files = c.settle.new.files }) _ c.settle.result _ c.in_ok-settings.settings (c.settle.ensures, refl)
    c.in_ok-settings.was (ended _ _ _ _ c.read.result _ c.in_err-file.field-0.0 (c.read.ensures, refl) c.in_err-file.was (search rules))

pub returns : goal.returns
returns g c =
    went_on _ _ _ (record c.args.outside.now { files = c.settle.new.files }) _ c.settle.result _ c.in_ok-settings.settings (c.settle.ensures, refl)
    c.in_ok-settings.was
    (went_on _ _ _ (record c.args.outside.now { files = c.read.new.files }) _ c.read.result _ c.in_ok-file.file (c.read.ensures, refl)
    c.in_ok-file.was (rw c.deref.ensures.value at c.print_rows.ensures, refl))
