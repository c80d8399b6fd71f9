use Rattle.std.specs.List.{each_same}
use Rattle.schedule_file.proofs.Copied.{fates_same}
use Rattle.schedule_file.proofs.Entries.{entries_same}
use Rattle.schedule_file.proofs.fates.Fates.copy.Goals as goal

pub returns-clause-host : goal.returns-clause-host
returns-clause-host c = fates_same c.args.self.now.host.entries c.in_ok-clone.field-0.entries c.in_ok-clone.ensures.cases

pub returns-clause-replies : goal.returns-clause-replies
returns-clause-replies c = fates_same c.args.self.now.replies.entries c.in_ok-clone-2.field-0.entries c.in_ok-clone-2.ensures.cases

pub returns-clause-lates : goal.returns-clause-lates
returns-clause-lates c = entries_same c.args.self.now.lates.entries c.in_ok-clone-3.field-0.entries c.in_ok-clone-3.ensures.cases

pub returns-clause-mids : goal.returns-clause-mids
returns-clause-mids c = each_same c.args.self.now.mids.items c.in_ok-clone-4.field-0.items c.in_ok-clone-4.ensures.cases.0
