use Rattle.std.proofs.Common.{◌*◌}
use Rattle.daily_summary.specs.Running.{running_summary}
use Rattle.daily_summary.proofs.PartsLaws.{AreWritten}
use Rattle.daily_summary.proofs.running.RunningSummary.part.Given as goal

abbrev pub invariant-loop-place : goal.invariant-loop-place
invariant-loop-place l = AreWritten (running_summary l.self) (3 * l.k) l.place l.part
