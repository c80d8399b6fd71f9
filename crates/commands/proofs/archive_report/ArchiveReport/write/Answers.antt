use Rattle.commands.proofs.archive_report.ArchiveReport.write.Goals as goal

pub returns-in-OfDays : goal.returns-in-OfDays
returns-in-OfDays g c = rw c.in-OfDays.is c.write_wanted.ensures

pub returns-in-Climate : goal.returns-in-Climate
returns-in-Climate g c = rw c.in-Climate.is c.climate.ensures
