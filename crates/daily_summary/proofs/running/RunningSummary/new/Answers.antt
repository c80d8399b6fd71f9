use Rattle.daily_summary.proofs.RunningRows.{none_running, none_told}
use Rattle.daily_summary.proofs.running.RunningSummary.new.Goals as goal

pub returns-clause-summary : goal.returns-clause-summary
returns-clause-summary c = none_told c.unmeasured.result c.unmeasured.ensures

pub returns-clause-running : goal.returns-clause-running
returns-clause-running c = none_running c.unmeasured.result c.unmeasured.ensures
