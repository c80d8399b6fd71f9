use Rattle.daily_summary.proofs.RunningRows.{IsTold}
use Rattle.daily_summary.proofs.RunningSums.{blank}
use Rattle.daily_summary.proofs.running.RunningSummary.summary.Given as goal

abbrev pub invariant-loop-field : goal.invariant-loop-field
invariant-loop-field l = IsTold blank l.field l.self l.fields
