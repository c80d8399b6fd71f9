use Rattle.archive_import.proofs.ArchiveRows.{all_rows, archive_text}
use Rattle.archive_import.proofs.laws.lines_of_an_archive_are_its_rows.Goals as goal

pub returns-clause-read : goal.returns-clause-read
returns-clause-read c = archive_text

pub returns-clause-all : goal.returns-clause-all
returns-clause-all c = all_rows
