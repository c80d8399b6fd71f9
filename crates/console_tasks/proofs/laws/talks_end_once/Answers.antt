use Rattle.console_tasks.proofs.Endings.{ends_once}
use Rattle.console_tasks.proofs.laws.talks_end_once.Goals as goal

pub returns : goal.returns
returns c = ends_once
