use Rattle.line_laws.proofs.CoveredPages.{kept_covers, refused_covers}
use Rattle.line_laws.proofs.laws.acknowledged_pages_are_given.Goals as goal

pub returns-clause-kept : goal.returns-clause-kept
returns-clause-kept c = kept_covers

pub returns-clause-refused : goal.returns-clause-refused
returns-clause-refused c = refused_covers
