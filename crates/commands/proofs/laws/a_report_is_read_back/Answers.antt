use Rattle.commands.proofs.AllRowTexts.{report_imported, report_read}
use Rattle.commands.proofs.laws.a_report_is_read_back.Goals as goal

pub returns-clause-read : goal.returns-clause-read
returns-clause-read g c = report_read

pub returns-clause-imported : goal.returns-clause-imported
returns-clause-imported g c = report_imported g.E.Disk.medium
