use Rattle.std.proofs.Common.{refl, rules}
use Rattle.run_output.proofs.Behind.{ended, went_on}
use Rattle.commands.proofs.printing.print_file.Goals as goal

pub returns-in_err-file : goal.returns-in_err-file
returns-in_err-file g c = ended _ _ _ _ c.read.result _ c.in_err-file.field-0.0 (c.read.ensures, refl) c.in_err-file.was (search rules)

pub returns : goal.returns
returns g c =
    went_on _ _ _ (record c.args.outside.now { files = c.read.new.files }) _ c.read.result _ c.in_ok-file.file (c.read.ensures, refl) c.in_ok-file.was
    (rw c.deref.ensures.value at c.print_pages.ensures, refl)
