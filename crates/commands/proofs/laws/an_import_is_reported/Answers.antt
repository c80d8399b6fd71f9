use Rattle.commands.proofs.AllRowTexts.{import_reported}
use Rattle.commands.proofs.laws.an_import_is_reported.Goals as goal

pub returns : goal.returns
returns g c = import_reported g.E.Disk.medium
